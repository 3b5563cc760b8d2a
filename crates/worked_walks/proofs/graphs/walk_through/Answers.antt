use Rattle.std.proofs.Common.{◌≡◌, ◌≤◌, ℕ, List, length, sym, subst, ◌∙◌, arith}
use Rattle.worked_walks.proofs.JoinedPaths.{found_at, walk_of_paths, short_walk, via_walk_of}
use Rattle.worked_walks.proofs.graphs.walk_through.Goals as goal

pub of-requires-clause-walk : goal.of-requires-clause-walk
of-requires-clause-walk c =
    walk_of_paths _ _ _ _ _ _ _
    (found_at _ _ _ _ _ c.in-Some.is c.in_ok-prefix.ensures.found c.in_ok-prefix.ensures.short)
    (found_at _ _ _ _ _ c.in-Some-2.is c.in_ok-back.ensures.found c.in_ok-back.ensures.short)
    (c.as_slice.ensures ∙ c.in_ok-arcs.ensures)

pub of-requires-clause-short : goal.of-requires-clause-short
of-requires-clause-short c =
    short_walk _ _ _ _ _ _ _
    (found_at _ _ _ _ _ c.in-Some.is c.in_ok-prefix.ensures.found c.in_ok-prefix.ensures.short)
    (found_at _ _ _ _ _ c.in-Some-2.is c.in_ok-back.ensures.found c.in_ok-back.ensures.short)
    (c.as_slice.ensures ∙ c.in_ok-arcs.ensures)

pub returns : goal.returns
returns c =
    via_walk_of _ _ _ _ _ _ _ _ _ c.within_limits.ensures (c.are_vertices.ensures.0 c.if-not-are_vertices.false).0
    (found_at _ _ _ _ _ c.in-Some.is c.in_ok-prefix.ensures.found c.in_ok-prefix.ensures.short)
    (found_at _ _ _ _ _ c.in-Some-2.is c.in_ok-back.ensures.found c.in_ok-back.ensures.short)
    (c.as_slice.ensures ∙ c.in_ok-arcs.ensures) (subst (λ (p : List ℕ). length p ≤ 1000) (sym c.as_slice.ensures) (let n : c.len.result ≡ length c.in_ok-arcs.arcs = c.len.ensures in omega arith)) c.in_ok-trail.ensures c.len-2.ensures
