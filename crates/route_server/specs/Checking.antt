-- What a run with `recheck GRAPH CERTIFICATE` says.
--   yes_text, no_text        the line of an accepted certificate, with the count of paths listed; or of a refused one, with
--                            the line and the word of its first fault
--   answer_text x            the line of an answer
--   IsAccepting g bytes x    the bytes are a certificate's, whose checks come to this answer, and an accepted one tells the
--                            truth
--   IsJudged g bytes x       this is said of the bytes against a graph: their first fault as a text, or what the checks of their
--                            certificate come to
--   Judges g file r          r is this of the file's bytes, where it is there
--   ends_with x              how a run ends with this answer, once its line is written
--   IsAnswered x out now s   the line of the answer was written, or a prefix of it, or nothing
--   IsSaid ..                the line of such an answer stands after what stood before; IsSaidPrefix: a prefix of it does
--   Says g bytes out now status   how a run ends that has read the graph, and the file of the certificate
--     Done         the certificate was accepted, and its line stands written
--     CheckedNo    it has this fault, and its line stands written
--     WriteFault   a prefix of such a line stands there
--     ReadFault, NoMemory   nothing was written
--   SaysOf, SaysOver, SaysFile   the same by the contents of the two files, of which any may not be there; a graph file's
--                            fault goes first
use Rattle.std.specs.Prelude.{◌≡◌, ℕ, List, [], ◌∷◌, ◌++◌, ◌⊎◌, Option, Some, None, Result, Ok, Err, codes, decimal}
use Rattle.road_io.specs.Sink.{WritesPrefix}
use Rattle.road_model.specs.Graph.{Graph}
use Rattle.dimacs_reader.specs.declared.fault.GraphFault.{GraphFault}
use Rattle.dimacs_reader.specs.Gr.{gr_text}
use Rattle.certificate_text.specs.declared.certificate.Certificate.{Certificate}
use Rattle.certificate_text.specs.declared.fault.CertFault.{CertFault}
use Rattle.certificate_text.specs.declared.fault.CertError.{CertError}
use Rattle.certificate_text.specs.declared.fault.CertError.TheVariants.{Refused, ReadFault, NoMemory}
use Rattle.certificate_text.specs.Messages.{fault_word}
use Rattle.certificate_text.specs.Reading.{IsCertificate, IsFault}
use Rattle.recheck.specs.declared.whole.Checked.{Checked}
use Rattle.recheck.specs.declared.whole.Checked.TheVariants.{Yes, No}
use Rattle.recheck.specs.Checks.{IsChecked}
use Rattle.recheck.specs.Truth.{TellsTruth}
use Rattle.route_server.specs.declared.status.Status.{Status}
use Rattle.route_server.specs.declared.status.Status.TheVariants as the
use Rattle.route_server.specs.Giving.{Refuses}

abbrev pub yes_text : ℕ → List ℕ
yes_text listed = codes "yes " ++ decimal listed ++ 10 ∷ []

abbrev pub no_text : CertFault → List ℕ
no_text fault = codes "no " ++ decimal fault.line ++ codes " " ++ fault_word fault.kind ++ 10 ∷ []

abbrev pub answer_text : Checked → List ℕ
answer_text (Yes listed) = yes_text listed
answer_text (No fault) = no_text fault

pub record IsAccepting (g : Graph) (bytes : List ℕ) (x : Checked) : Type 0 where
  pub certificate : Certificate
  pub read : IsCertificate bytes certificate
  pub checked : IsChecked g certificate x
  pub truth : TellsTruth g certificate x

abbrev pub IsJudged : Graph → List ℕ → Checked → Type 0
IsJudged g bytes (Yes listed) = IsAccepting g bytes (Yes listed)
IsJudged g bytes (No fault) = IsFault bytes fault ⊎ IsAccepting g bytes (No fault)

-- what judging the file of a certificate comes to
abbrev pub Judges : Graph → Option (List ℕ) → Result Checked CertError → Type 0
Judges g None (Ok answer) = ⊥
Judges g (Some bytes) (Ok answer) = IsJudged g bytes answer
Judges g file (Err (Refused fault)) = ⊥
Judges g file (Err ReadFault) = Unit {0}
Judges g file (Err NoMemory) = Unit {0}

-- how a run ends that has an answer, once its line is written
abbrev pub ends_with : Checked → Status
ends_with (Yes listed) = the.Done
ends_with (No fault) = the.CheckedNo fault

-- how the write of an answer's line ends
abbrev pub IsAnswered : Checked → List ℕ → List ℕ → Status → Type 0
IsAnswered answer out now the.Done = (ends_with answer ≡ the.Done) × (now ≡ out ++ answer_text answer)
IsAnswered answer out now (the.CheckedNo fault) = (ends_with answer ≡ the.CheckedNo fault) × (now ≡ out ++ answer_text answer)
IsAnswered answer out now the.Usage = ⊥
IsAnswered answer out now (the.GraphRefused fault) = ⊥
IsAnswered answer out now the.ReadFault = ⊥
IsAnswered answer out now the.WriteFault = WritesPrefix (answer_text answer) out now
IsAnswered answer out now the.NoMemory = now ≡ out
IsAnswered answer out now the.InputLong = ⊥
IsAnswered answer out now the.QueryRefused = ⊥

pub record IsSaid (g : Graph) (bytes : List ℕ) (x : Checked) (out now : List ℕ) : Type 0 where
  pub judged : IsJudged g bytes x
  pub is : now ≡ out ++ answer_text x

pub record IsSaidPrefix (g : Graph) (bytes out now : List ℕ) : Type 0 where
  pub answer : Checked
  pub judged : IsJudged g bytes answer
  pub is : WritesPrefix (answer_text answer) out now

pub record IsSaidYes (g : Graph) (bytes out now : List ℕ) : Type 0 where
  pub listed : ℕ
  pub said : IsSaid g bytes (Yes listed) out now

abbrev pub Says : Graph → List ℕ → List ℕ → List ℕ → Status → Type 0
Says g bytes out now the.Done = IsSaidYes g bytes out now
Says g bytes out now (the.CheckedNo fault) = IsSaid g bytes (No fault) out now
Says g bytes out now the.Usage = ⊥
Says g bytes out now (the.GraphRefused fault) = ⊥
Says g bytes out now the.ReadFault = now ≡ out
Says g bytes out now the.WriteFault = IsSaidPrefix g bytes out now
Says g bytes out now the.NoMemory = now ≡ out
Says g bytes out now the.InputLong = ⊥
Says g bytes out now the.QueryRefused = ⊥

-- memory may be refused before it is seen that the file isn't there
abbrev pub IsUnsaid : List ℕ → List ℕ → Status → Type 0
IsUnsaid out now the.Done = ⊥
IsUnsaid out now (the.CheckedNo fault) = ⊥
IsUnsaid out now the.Usage = ⊥
IsUnsaid out now (the.GraphRefused fault) = ⊥
IsUnsaid out now the.ReadFault = now ≡ out
IsUnsaid out now the.WriteFault = ⊥
IsUnsaid out now the.NoMemory = now ≡ out
IsUnsaid out now the.InputLong = ⊥
IsUnsaid out now the.QueryRefused = ⊥

abbrev pub SaysOf : Graph → Option (List ℕ) → List ℕ → List ℕ → Status → Type 0
SaysOf g None out now status = IsUnsaid out now status
SaysOf g (Some bytes) out now status = Says g bytes out now status

abbrev pub SaysOver : Result Graph GraphFault → Option (List ℕ) → List ℕ → List ℕ → Status → Type 0
SaysOver (Ok graph) file out now status = SaysOf graph file out now status
SaysOver (Err fault) file out now status = Refuses fault status × (now ≡ out)

abbrev pub SaysFile : Option (List ℕ) → Option (List ℕ) → List ℕ → List ℕ → Status → Type 0
SaysFile None file out now status = (status ≡ the.ReadFault) × (now ≡ out)
SaysFile (Some bytes) file out now status = SaysOver (gr_text bytes) file out now status
