-- What a run that writes one text does: out stood written before, now stands written.
--   IsGiven IsText out now          a text that is one stands after what stood before
--   IsGivenPrefix IsText out now     a prefix of such a text does
--   GivesText IsText out now status     Done: such a text stands there; WriteFault: a prefix of one does; where a read
--                                   failed or memory was refused, nothing was written
--   Refuses fault status            the graph's first fault; a failed read or refused memory may end the run before it
--                                   is found
--   GivesGraph IsText r ..          GivesText of the graph, or its first fault is refused and nothing was written
--   GivesOf IsText file ..          the same of what a file gives; where there is no such file, a read fault, and
--                                   nothing was written
--   check_text g                    the line that says how large a graph is
--   IsCheck g text, IsPrint g text  the text is that line, or the canonical text of the graph
--   ends_by put                     how a run ends with its last write
use Rattle.std.specs.Prelude.{◌≡◌, ℕ, List, [], ◌∷◌, ◌++◌, Option, Some, None, Result, Ok, Err, codes, decimal}
use Rattle.road_io.specs.Sink.{WritesPrefix}
use Rattle.road_model.specs.Graph.{Graph, arc_count}
use Rattle.dimacs_reader.specs.declared.fault.GraphFault.{GraphFault}
use Rattle.dimacs_reader.specs.Gr.{gr_text}
use Rattle.dimacs_reader.specs.Text.{graph_text}
use Rattle.road_io.specs.declared.writing.Put.{Put}
use Rattle.road_io.specs.declared.writing.Put.TheVariants.{Done, Failed}
use Rattle.route_server.specs.declared.status.Status.{Status}
use Rattle.route_server.specs.declared.status.Status.TheVariants as the

pub record IsGiven (IsText : List ℕ → Type 0) (out now : List ℕ) : Type 0 where
  pub text : List ℕ
  pub is_text : IsText text
  pub is : now ≡ out ++ text

pub record IsGivenPrefix (IsText : List ℕ → Type 0) (out now : List ℕ) : Type 0 where
  pub text : List ℕ
  pub is_text : IsText text
  pub is : WritesPrefix text out now

abbrev pub GivesText : (List ℕ → Type 0) → List ℕ → List ℕ → Status → Type 0
GivesText IsText out now the.Done = IsGiven IsText out now
GivesText IsText out now (the.CheckedNo fault) = ⊥
GivesText IsText out now the.Usage = ⊥
GivesText IsText out now (the.GraphRefused fault) = ⊥
GivesText IsText out now the.ReadFault = now ≡ out
GivesText IsText out now the.WriteFault = IsGivenPrefix IsText out now
GivesText IsText out now the.NoMemory = now ≡ out
GivesText IsText out now the.InputLong = ⊥
GivesText IsText out now the.QueryRefused = ⊥

abbrev pub Refuses : GraphFault → Status → Type 0
Refuses fault the.Done = ⊥
Refuses fault (the.CheckedNo other) = ⊥
Refuses fault the.Usage = ⊥
Refuses fault (the.GraphRefused found) = found ≡ fault
Refuses fault the.ReadFault = Unit {0}
Refuses fault the.WriteFault = ⊥
Refuses fault the.NoMemory = Unit {0}
Refuses fault the.InputLong = ⊥
Refuses fault the.QueryRefused = ⊥

abbrev pub GivesGraph : (Graph → List ℕ → Type 0) → Result Graph GraphFault → List ℕ → List ℕ → Status → Type 0
GivesGraph IsText (Ok graph) out now status = GivesText (IsText graph) out now status
GivesGraph IsText (Err fault) out now status = Refuses fault status × (now ≡ out)

abbrev pub GivesOf : (Graph → List ℕ → Type 0) → Option (List ℕ) → List ℕ → List ℕ → Status → Type 0
GivesOf IsText None out now status = (status ≡ the.ReadFault) × (now ≡ out)
GivesOf IsText (Some bytes) out now status = GivesGraph IsText (gr_text bytes) out now status

abbrev pub check_text : Graph → List ℕ
check_text g = codes "graph vertices " ++ decimal g.vertices ++ codes " arcs " ++ decimal (arc_count g) ++ 10 ∷ []

abbrev pub IsCheck : Graph → List ℕ → Type 0
IsCheck g text = text ≡ check_text g

abbrev pub IsPrint : Graph → List ℕ → Type 0
IsPrint g text = text ≡ graph_text g

-- how a run ends with its last write
abbrev pub ends_by : Put → Status
ends_by Done = the.Done
ends_by Failed = the.WriteFault
