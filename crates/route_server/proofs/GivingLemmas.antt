-- Runs that write one text.
use Rattle.std.proofs.Common.{◌≡◌, ℕ, List, ◌++◌, Option, Some, None, IfSome, Result, Ok, Err, refl, sym, subst}
use Rattle.road_io.specs.Told.{Told, IfTold}
use Rattle.road_io.specs.Sink.{Writes, WritesPrefix}
use Rattle.road_io.specs.declared.writing.Put.{Put}
use Rattle.road_io.specs.declared.writing.Put.TheVariants.{Done, Failed}
use Rattle.road_io.proofs.ToldLemmas.{IfTold_then, told_same}
use Rattle.road_model.specs.Graph.{Graph}
use Rattle.dimacs_reader.specs.declared.fault.GraphFault.{GraphFault}
use Rattle.dimacs_reader.specs.declared.fault.GraphError.{GraphError}
use Rattle.dimacs_reader.specs.declared.fault.GraphError.TheVariants as error
use Rattle.dimacs_reader.specs.Gr.{gr_text}
use Rattle.route_server.specs.declared.status.Status.{Status}
use Rattle.route_server.specs.declared.status.Status.TheVariants as the
use Rattle.route_server.specs.Loading.{Loads, ends_as}
use Rattle.route_server.specs.Giving.{GivesText, GivesGraph, GivesOf, ends_by}

-- a text that was written
pub gives_text : (IsText : List ℕ → Type 0) (text : List ℕ) (a b : Option Told) (put : Put) → IsText text → Writes text a b put → IfTold a b (λ out now. GivesText IsText out now (ends_by put))
gives_text IsText text a b Done is w =
    IfTold_then a b _ _ (λ (out now : List ℕ) (e : now ≡ out ++ text). record { text = text; is_text = is; is = e }) w
gives_text IsText text a b Failed is w =
    IfTold_then a b _ _ (λ (out now : List ℕ) (e : WritesPrefix text out now). record { text = text; is_text = is; is = e }) w

-- the graph that a file gave
of_graph : (IsText : Graph → List ℕ → Type 0) (r : Result Graph GraphFault) (g : Graph) (out now : List ℕ) (status : Status) → r ≡ Ok g → GivesText (IsText g) out now status → GivesGraph IsText r out now status
of_graph IsText r g out now status e h = subst (λ x. GivesGraph IsText x out now status) (sym e) h

of_file : (IsText : Graph → List ℕ → Type 0) (file : Option (List ℕ)) (g : Graph) (out now : List ℕ) (status : Status) → Loads file (Ok g) → GivesText (IsText g) out now status → GivesOf IsText file out now status
of_file IsText None g out now status l h = absurd l
of_file IsText (Some bytes) g out now status l h = of_graph IsText (gr_text bytes) g out now status l h

pub gives_loaded : (IsText : Graph → List ℕ → Type 0) (shelf a b : Option Told) (name : List ℕ) (g : Graph) (status : Status) → IfSome shelf (λ told. Loads (told.files name) (Ok g)) → IfTold a b (λ out now. GivesText (IsText g) out now status) → IfSome shelf (λ told. IfTold a b (λ out now. GivesOf IsText (told.files name) out now status))
gives_loaded IsText None a b name g status l h = tt
gives_loaded IsText (Some told) a b name g status l h =
    IfTold_then a b _ _ (λ (out now : List ℕ) (k : GivesText (IsText g) out now status). of_file IsText (told.files name) g out now status l k) h

-- a graph that wasn't loaded
refused : (IsText : Graph → List ℕ → Type 0) (r : Result Graph GraphFault) (fault : GraphFault) (out : List ℕ) → r ≡ Err fault → GivesGraph IsText r out out (the.GraphRefused fault)
refused IsText r fault out e = subst (λ x. GivesGraph IsText x out out (the.GraphRefused fault)) (sym e) (refl, refl)

unread : (IsText : Graph → List ℕ → Type 0) (r : Result Graph GraphFault) (out : List ℕ) → GivesGraph IsText r out out the.ReadFault
unread IsText (Ok g) out = refl
unread IsText (Err fault) out = (tt, refl)

starved : (IsText : Graph → List ℕ → Type 0) (r : Result Graph GraphFault) (out : List ℕ) → GivesGraph IsText r out out the.NoMemory
starved IsText (Ok g) out = refl
starved IsText (Err fault) out = (tt, refl)

not_loaded : (IsText : Graph → List ℕ → Type 0) (file : Option (List ℕ)) (e : GraphError) (out : List ℕ) → Loads file (Err e) → GivesOf IsText file out out (ends_as e)
not_loaded IsText None (error.Refused fault) out l = absurd l
not_loaded IsText None error.ReadFault out l = (refl, refl)
not_loaded IsText None error.NoMemory out l = absurd l
not_loaded IsText (Some bytes) (error.Refused fault) out l = refused IsText (gr_text bytes) fault out l
not_loaded IsText (Some bytes) error.ReadFault out l = unread IsText (gr_text bytes) out
not_loaded IsText (Some bytes) error.NoMemory out l = starved IsText (gr_text bytes) out

pub gives_not_loaded : (IsText : Graph → List ℕ → Type 0) (shelf a : Option Told) (name : List ℕ) (e : GraphError) → IfSome shelf (λ told. Loads (told.files name) (Err e)) → IfSome shelf (λ told. IfTold a a (λ out now. GivesOf IsText (told.files name) out now (ends_as e)))
gives_not_loaded IsText None a name e l = tt
gives_not_loaded IsText (Some told) a name e l =
    told_same a _ (λ (out : List ℕ). not_loaded IsText (told.files name) e out l)

-- memory was refused before anything was written
pub gives_nothing : (IsText : List ℕ → Type 0) (a : Option Told) → IfTold a a (λ out now. GivesText IsText out now the.NoMemory)
gives_nothing IsText a = told_same a _ (λ (out : List ℕ). refl)
