pub mod JoinedPaths
