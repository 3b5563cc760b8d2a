-- A run that rechecks a certificate.
use Rattle.std.proofs.Common.{◌≡◌, ℕ, List, Option, Some, None, IfSome, Result, Ok, sym, subst}
use Rattle.road_model.specs.Graph.{Graph}
use Rattle.road_io.specs.Told.{Told, IfTold}
use Rattle.road_io.proofs.ToldLemmas.{IfTold_then}
use Rattle.dimacs_reader.specs.declared.fault.GraphFault.{GraphFault}
use Rattle.dimacs_reader.specs.Gr.{gr_text}
use Rattle.recheck.specs.declared.whole.Checked.{Checked}
use Rattle.recheck.specs.declared.whole.Checked.TheVariants.{Yes, No}
use Rattle.route_server.specs.declared.status.Status.{Status}
use Rattle.route_server.specs.declared.status.Status.TheVariants as the
use Rattle.route_server.specs.Loading.{KeepsFiles, Loads}
use Rattle.route_server.specs.Checking.{IsJudged, IsAnswered, Judges, Says, SaysFile, SaysOf, SaysOver}

-- an answer whose line was written, or was to be
said : (g : Graph) (bytes out now : List ℕ) (x : Checked) (s : Status) → IsJudged g bytes x → IsAnswered x out now s → Says g bytes out now s
said g bytes out now (Yes listed) the.Done j h = record { listed = listed; said = record { judged = j; is = h.1 } }
said g bytes out now (No fault) the.Done j h = absurd (let e : the.CheckedNo fault ≡ the.Done = h.0 in cc)
said g bytes out now (Yes listed) (the.CheckedNo other) j h = absurd (let e : the.Done ≡ the.CheckedNo other = h.0 in cc)
said g bytes out now (No fault) (the.CheckedNo other) j h =
    let same : fault ≡ other = (let e : the.CheckedNo fault ≡ the.CheckedNo other = h.0 in cc) in
    subst (λ (f : _). Says g bytes out now (the.CheckedNo f)) same (record { judged = j; is = h.1 })
said g bytes out now x the.Usage j h = absurd h
said g bytes out now x (the.GraphRefused fault) j h = absurd h
said g bytes out now x the.ReadFault j h = absurd h
said g bytes out now x the.WriteFault j h = record { answer = x; judged = j; is = h }
said g bytes out now x the.NoMemory j h = h
said g bytes out now x the.InputLong j h = absurd h
said g bytes out now x the.QueryRefused j h = absurd h

said_of : (g star : Graph) (file : Option (List ℕ)) (out now : List ℕ) (x : Checked) (s : Status) → star ≡ g → Judges star file (Ok x) → IsAnswered x out now s → SaysOf g file out now s
said_of g star None out now x s e j h = absurd j
said_of g star (Some bytes) out now x s e j h = said g bytes out now x s (subst (λ (y : Graph). IsJudged y bytes x) e j) h

said_over : (r : Result Graph GraphFault) (g : Graph) (file : Option (List ℕ)) (out now : List ℕ) (s : Status) → r ≡ Ok g → SaysOf g file out now s → SaysOver r file out now s
said_over r g file out now s e h = subst (λ x. SaysOver x file out now s) (sym e) h

said_file : (graph file : Option (List ℕ)) (g : Graph) (out now : List ℕ) (s : Status) → Loads graph (Ok g) → SaysOf g file out now s → SaysFile graph file out now s
said_file None file g out now s l h = absurd l
said_file (Some bytes) file g out now s l h = said_over (gr_text bytes) g file out now s l h

pub says_answered : (shelf middle c d : Option Told) (name other : List ℕ) (g star : Graph) (x : Checked) (s : Status) →
    star ≡ g → IfSome shelf (λ told. Loads (told.files name) (Ok g)) → KeepsFiles shelf middle →
    IfSome middle (λ told. Judges star (told.files other) (Ok x)) → IfTold c d (λ out now. IsAnswered x out now s) →
    IfSome shelf (λ told. IfTold c d (λ out now. SaysFile (told.files name) (told.files other) out now s))
says_answered None middle c d name other g star x s e l m j h = tt
says_answered (Some told) None c d name other g star x s e l m j h = absurd m
says_answered (Some told) (Some mid) c d name other g star x s e l m j h =
    IfTold_then c d _ _ (λ (out now : List ℕ) (k : IsAnswered x out now s).
    said_file (told.files name) (told.files other) g out now s l
    (said_of g star (told.files other) out now x s e (subst (λ (files : List ℕ → Option (List ℕ)). Judges star (files other) (Ok x)) m j) k)) h
