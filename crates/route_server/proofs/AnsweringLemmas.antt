-- A run whose graph couldn't be loaded.
use Rattle.std.proofs.Common.{◌≡◌, ◌⊎◌, ℕ, List, [], Option, Some, None, IfSome, Result, Ok, Err, refl, sym, subst, inr}
use Rattle.road_model.specs.Graph.{Graph}
use Rattle.road_io.specs.Told.{Told, IfTold}
use Rattle.road_io.proofs.ToldLemmas.{IfTold_then, told_same}
use Rattle.road_text.specs.Lines.{whole_lines, whole_raw_lines}
use Rattle.dimacs_reader.specs.declared.fault.GraphFault.{GraphFault}
use Rattle.dimacs_reader.specs.declared.fault.GraphError.{GraphError}
use Rattle.dimacs_reader.specs.declared.fault.GraphError.TheVariants as error
use Rattle.dimacs_reader.specs.Gr.{gr_text}
use Rattle.route_server.specs.declared.status.Status.{Status}
use Rattle.route_server.specs.declared.status.Status.TheVariants as the
use Rattle.route_server.specs.Asking.{NoQuit, lines_within}
use Rattle.route_server.specs.Loading.{Loads, ends_as}
use Rattle.route_server.specs.Serving.{opening, Stops, Written}
use Rattle.route_server.specs.Answer.{Idle, AnswersGraph, AnswersFile}
use Rattle.route_server.specs.Causes.{IsAccepted, IsUnjudged}
use Rattle.route_server.proofs.ServingLemmas.{nothing_written}

no_lines : whole_lines [] ≡ []
unfolding whole_lines whole_raw_lines
no_lines = refl

idle : (text out : List ℕ) → Idle text text out out
idle text out = record { unread = refl; unwritten = refl }

-- a read fault where nothing of the input was read
fault_unread : (r : Result Graph GraphFault) (text out : List ℕ) → AnswersGraph r text text out out the.ReadFault
fault_unread (Ok g) text out = record {
  last = opening;
  taken = [];
  is = refl;
  written = subst (λ (ls : List (List ℕ)). Written g ls out out opening) (sym no_lines) (nothing_written g out);
  unquit = subst NoQuit (sym no_lines) tt;
}
fault_unread (Err fault) text out = (tt, idle text out)

starved_unread : (r : Result Graph GraphFault) (text out : List ℕ) → AnswersGraph r text text out out the.NoMemory
starved_unread (Ok g) text out = record { last = opening; some = []; others = lines_within text; parts = refl; written = nothing_written g out }
starved_unread (Err fault) text out = (tt, idle text out)

refused_unread : (r : Result Graph GraphFault) (fault : GraphFault) (text out : List ℕ) → r ≡ Err fault → AnswersGraph r text text out out (the.GraphRefused fault)
refused_unread r fault text out e = subst (λ x. AnswersGraph x text text out out (the.GraphRefused fault)) (sym e) (refl, idle text out)

-- a graph that wasn't loaded
not_loaded : (file : Option (List ℕ)) (e : GraphError) (text out : List ℕ) → Loads file (Err e) → AnswersFile file text text out out (ends_as e)
not_loaded None (error.Refused fault) text out l = absurd l
not_loaded None error.ReadFault text out l = (refl, idle text out)
not_loaded None error.NoMemory text out l = absurd l
not_loaded (Some bytes) (error.Refused fault) text out l = refused_unread (gr_text bytes) fault text out l
not_loaded (Some bytes) error.ReadFault text out l = fault_unread (gr_text bytes) text out
not_loaded (Some bytes) error.NoMemory text out l = starved_unread (gr_text bytes) text out

pub answers_not_loaded : (shelf a c : Option Told) (name : List ℕ) (e : GraphError) → IfSome shelf (λ told. Loads (told.files name) (Err e)) → IfSome shelf (λ told. IfTold a a (λ text rest. IfTold c c (λ out now. AnswersFile (told.files name) text rest out now (ends_as e))))
answers_not_loaded None a c name e l = tt
answers_not_loaded (Some told) a c name e l =
    told_same a _ (λ (text : List ℕ). told_same c _ (λ (out : List ℕ). not_loaded (told.files name) e text out l))

-- a graph that was
of_graph : (r : Result Graph GraphFault) (g : Graph) (text rest out now : List ℕ) (status : Status) → r ≡ Ok g → Stops g text rest out now status → AnswersGraph r text rest out now status
of_graph r g text rest out now status e h = subst (λ x. AnswersGraph x text rest out now status) (sym e) h

of_file : (file : Option (List ℕ)) (g : Graph) (text rest out now : List ℕ) (status : Status) → Loads file (Ok g) → Stops g text rest out now status → AnswersFile file text rest out now status
of_file None g text rest out now status l h = absurd l
of_file (Some bytes) g text rest out now status l h = of_graph (gr_text bytes) g text rest out now status l h

pub answers_loaded : (shelf a b c d : Option Told) (name : List ℕ) (file base : Graph) (status : Status) → base ≡ file → IfSome shelf (λ told. Loads (told.files name) (Ok file)) → IfTold a b (λ text rest. IfTold c d (λ out now. Stops base text rest out now status)) → IfSome shelf (λ told. IfTold a b (λ text rest. IfTold c d (λ out now. AnswersFile (told.files name) text rest out now status)))
answers_loaded None a b c d name file base status e l h = tt
answers_loaded (Some told) a b c d name file base status e l h =
    IfTold_then a b _ _ (λ (text rest : List ℕ) (k : IfTold c d (λ out now. Stops base text rest out now status)).
    IfTold_then c d _ _ (λ (out now : List ℕ) (s : Stops base text rest out now status).
    of_file (told.files name) file text rest out now status l (subst (λ (g : Graph). Stops g text rest out now status) e s)) k) h

-- a graph that was read, and no version of it could be made
no_version : (file : Option (List ℕ)) (g : Graph) (text out : List ℕ) → Loads file (Ok g) → AnswersFile file text text out out the.NoMemory
no_version None g text out l = absurd l
no_version (Some bytes) g text out l = starved_unread (gr_text bytes) text out

pub answers_no_version : (shelf a c : Option Told) (name : List ℕ) (g : Graph) → IfSome shelf (λ told. Loads (told.files name) (Ok g)) → IfSome shelf (λ told. IfTold a a (λ text rest. IfTold c c (λ out now. AnswersFile (told.files name) text rest out now the.NoMemory)))
answers_no_version None a c name g l = tt
answers_no_version (Some told) a c name g l =
    told_same a _ (λ (text : List ℕ). told_same c _ (λ (out : List ℕ). no_version (told.files name) g text out l))

-- a read fault after a graph was accepted
accepted : (told : Told) (name : List ℕ) (file : Option (List ℕ)) (g : Graph) → told.files name ≡ file → Loads file (Ok g) → IsAccepted (Some told) name
accepted told name None g is l = absurd l
accepted told name (Some bytes) g is l = record { told = told; is = refl; bytes = bytes; file = is; graph = g; whole = l }

pub fault_accepted : (shelf after : Option Told) (name : List ℕ) (g : Graph) (Risen : Type 0) → IfSome shelf (λ told. Loads (told.files name) (Ok g)) → Risen → IfSome shelf (λ told. IsUnjudged told name after ⊎ (IsAccepted shelf name × Risen))
fault_accepted None after name g Risen l risen = tt
fault_accepted (Some told) after name g Risen l risen = inr (accepted told name (told.files name) g refl l, risen)
