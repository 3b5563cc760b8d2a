-- What the end of a run says of the files, the input and the output, whatever stands written.
--   IsRefusal status             the words were refused, or the graph file or the query was
--   IsEarly status               a command that writes one text ended before its write
--   IsWhole status               the work was done, or memory was refused, or the input is too long
--   IsCertify command            the command writes a certificate
--   HasFile command              the command names a graph file
--   IsAccepted shelf name        the shelf tells its files, and that of the name is a graph file without a fault
--   AreEnds g ends               both ends of a query are vertices of the graph
--   IsInside shelf name ends     the shelf tells its files, that of the name is a graph file without a fault, and both ends are
--                                vertices of its graph
--   IsOutside shelf name ends    the same, but one of the ends isn't a vertex
--   IsThere shelf name           the shelf tells its files, and there is one of the name
--   IsReady command shelf words  there is a command, the graph file that it names, if it does, is accepted, and its other file,
--                                if it has one, is there; the ends of its query, if it has one, are vertices of the graph
--   HasFault told name fault     the file of the name has this first fault
--   IsCutOff told name after     a read of the file of the name failed after whole lines that have no fault
--   IsUnjudged told name after   the file of the name couldn't be picked, and the shelf is as before; or a read of it
--                                failed so
--   IsLong text                  the text is too long, and no line that ends within the limit ends the run
use Rattle.std.specs.Prelude.{◌≡◌, ℕ, ◌<◌, ◌⊎◌, List, Option, Some, None, Ok, Err, length}
use Rattle.road_io.specs.Told.{Told}
use Rattle.road_model.specs.Graph.{Graph, IsVertex}
use Rattle.dimacs_reader.specs.declared.fault.GraphFault.{GraphFault}
use Rattle.dimacs_reader.specs.Gr.{gr_text}
use Rattle.dimacs_reader.specs.Reads.{IsCutShort}
use Rattle.route_server.specs.declared.status.Status.{Status}
use Rattle.route_server.specs.declared.status.Status.TheVariants.{Done, CheckedNo, Usage, GraphRefused, ReadFault, WriteFault, NoMemory, InputLong, QueryRefused}
use Rattle.route_server.specs.declared.words.Ends.{Ends}
use Rattle.route_server.specs.declared.words.Command.{Command}
use Rattle.route_server.specs.declared.words.Command.TheVariants.{Check, Print, Make, Survey, Answer, Recheck, Certify}
use Rattle.route_server.specs.Words.{name_of, other_name_of}
use Rattle.route_server.specs.Asking.{lines_within, most_input, NoQuit}

abbrev pub IsRefusal : Status → Type 0
IsRefusal Done = ⊥
IsRefusal (CheckedNo fault) = ⊥
IsRefusal Usage = Unit {0}
IsRefusal (GraphRefused fault) = Unit {0}
IsRefusal ReadFault = ⊥
IsRefusal WriteFault = ⊥
IsRefusal NoMemory = ⊥
IsRefusal InputLong = ⊥
IsRefusal QueryRefused = Unit {0}

abbrev pub IsEarly : Status → Type 0
IsEarly Done = ⊥
IsEarly (CheckedNo fault) = ⊥
IsEarly Usage = Unit {0}
IsEarly (GraphRefused fault) = Unit {0}
IsEarly ReadFault = Unit {0}
IsEarly WriteFault = ⊥
IsEarly NoMemory = Unit {0}
IsEarly InputLong = Unit {0}
IsEarly QueryRefused = Unit {0}

abbrev pub IsWhole : Status → Type 0
IsWhole Done = Unit {0}
IsWhole (CheckedNo fault) = Unit {0}
IsWhole Usage = ⊥
IsWhole (GraphRefused fault) = ⊥
IsWhole ReadFault = ⊥
IsWhole WriteFault = ⊥
IsWhole NoMemory = Unit {0}
IsWhole InputLong = Unit {0}
IsWhole QueryRefused = ⊥

pub record IsCertify (command : Option Command) : Type 0 where
  pub ends : Ends
  pub is : command ≡ Some (Certify ends)

abbrev pub HasFile : Option Command → Type 0
HasFile command = (command ≡ Some Check) ⊎ ((command ≡ Some Print) ⊎ ((command ≡ Some Answer) ⊎ ((command ≡ Some Recheck) ⊎ IsCertify command)))

pub record IsAccepted (shelf : Option Told) (name : List ℕ) : Type 0 where
  pub told : Told
  pub is : shelf ≡ Some told
  pub bytes : List ℕ
  pub file : told.files name ≡ Some bytes
  pub graph : Graph
  pub whole : gr_text bytes ≡ Ok graph

abbrev pub AreEnds : Graph → Ends → Type 0
AreEnds g ends = IsVertex g.vertices ends.from × IsVertex g.vertices ends.to

pub record IsInside (shelf : Option Told) (name : List ℕ) (ends : Ends) : Type 0 where
  pub accepted : IsAccepted shelf name
  pub inside : AreEnds accepted.graph ends

pub record IsOutside (shelf : Option Told) (name : List ℕ) (ends : Ends) : Type 0 where
  pub accepted : IsAccepted shelf name
  pub outside : AreEnds accepted.graph ends → ⊥

-- the shelf tells its files, and that of the name is there
pub record IsThere (shelf : Option Told) (name : List ℕ) : Type 0 where
  pub told : Told
  pub is : shelf ≡ Some told
  pub bytes : List ℕ
  pub file : told.files name ≡ Some bytes

abbrev pub IsReady : Option Command → Option Told → List (List ℕ) → Type 0
IsReady None shelf words = ⊥
IsReady (Some Check) shelf words = IsAccepted shelf (name_of words)
IsReady (Some Print) shelf words = IsAccepted shelf (name_of words)
IsReady (Some (Make grid)) shelf words = Unit {0}
IsReady (Some (Survey grid queries)) shelf words = Unit {0}
IsReady (Some Answer) shelf words = IsAccepted shelf (name_of words)
IsReady (Some Recheck) shelf words = IsAccepted shelf (name_of words) × IsThere shelf (other_name_of words)
IsReady (Some (Certify ends)) shelf words = IsInside shelf (name_of words) ends

pub record HasFault (told : Told) (name : List ℕ) (fault : GraphFault) : Type 0 where
  pub bytes : List ℕ
  pub file : told.files name ≡ Some bytes
  pub first : gr_text bytes ≡ Err fault

pub record IsCutOff (told : Told) (name : List ℕ) (after : Option Told) : Type 0 where
  pub bytes : List ℕ
  pub file : told.files name ≡ Some bytes
  pub left : Told
  pub is : after ≡ Some left
  pub cut : IsCutShort bytes left.bytes

abbrev pub IsUnjudged : Told → List ℕ → Option Told → Type 0
IsUnjudged told name after = (after ≡ Some told) ⊎ IsCutOff told name after

pub record IsLong (text : List ℕ) : Type 0 where
  pub long : most_input < length text
  pub unquit : NoQuit (lines_within text)
