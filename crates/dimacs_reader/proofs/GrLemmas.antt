-- How the first fault of a file, its problem and its arcs go on over one line more.
use Rattle.std.proofs.Common.{◌≡◌, ℕ, List, [], ◌∷◌, ◌++◌, length, Option, Some, None, refl, sym, ap, ◌∙◌, append_assoc}
use Rattle.std.specs.List.{cons_option}
use Rattle.std.specs.Option.{option_or}
use Rattle.std.proofs.lemmas.List.{append-nil}
use Rattle.std.proofs.lemmas.List.Elements.{filter_map-append}
use Rattle.dimacs_reader.specs.declared.fault.GraphKind.{GraphKind}
use Rattle.dimacs_reader.specs.declared.fault.GraphFault.{GraphFault}
use Rattle.dimacs_reader.specs.declared.line.Problem.{Problem}
use Rattle.dimacs_reader.specs.Gr.{problem_of, arc_of, problem_in, arcs_in, line_fault, fault_of, fault_at, or_later, first_fault}

pub problem_in-nil : problem_in [] ≡ None
unfolding problem_in
problem_in-nil = refl

pub arcs_in-nil : arcs_in [] ≡ []
unfolding arcs_in
arcs_in-nil = refl

or_assoc : {A : Type 0} → (a b c : Option A) → option_or (option_or a b) c ≡ option_or a (option_or b c)
or_assoc None b c = refl
or_assoc (Some x) b c = refl

pub problem_in-push : (lines : List (List ℕ)) (line : List ℕ) → problem_in (lines ++ line ∷ []) ≡ option_or (problem_in lines) (problem_of line)
unfolding problem_in
problem_in-push [] line = none_last (problem_of line)
  where
    none_last : (o : Option Problem) → option_or o None ≡ option_or None o
    none_last None = refl
    none_last (Some p) = refl
problem_in-push (first ∷ lines) line =
    ap (λ (o : Option Problem). option_or (problem_of first) o) (problem_in-push lines line) ∙ sym (or_assoc (problem_of first) (problem_in lines) (problem_of line))

pub arcs_in-push : (lines : List (List ℕ)) (line : List ℕ) → arcs_in (lines ++ line ∷ []) ≡ arcs_in lines ++ cons_option (arc_of line) []
unfolding arcs_in
arcs_in-push lines line = filter_map-append arc_of lines (line ∷ [])

-- ---- the first fault

pub first_fault-nil : (before : List (List ℕ)) → first_fault before [] ≡ None
unfolding first_fault
first_fault-nil before = refl

pub first_fault-cons : (before lines : List (List ℕ)) (line : List ℕ) → first_fault before (line ∷ lines) ≡ or_later before (fault_of before line) (first_fault (before ++ line ∷ []) lines)
unfolding first_fault
first_fault-cons before lines line = refl

-- of lines in two parts
pub first_fault-append : (before xs ys : List (List ℕ)) → first_fault before (xs ++ ys) ≡ option_or (first_fault before xs) (first_fault (before ++ xs) ys)
first_fault-append before [] ys =
    ap (λ (ls : List (List ℕ)). first_fault ls ys) (sym (append-nil before)) ∙ ap (λ (o : Option GraphFault). option_or o (first_fault (before ++ []) ys)) (sym (first_fault-nil before))
first_fault-append before (line ∷ xs) ys =
    first_fault-cons before (xs ++ ys) line
    ∙ ap (or_later before (fault_of before line)) (first_fault-append (before ++ line ∷ []) xs ys ∙ ap (λ (ls : List (List ℕ)). option_or (first_fault (before ++ line ∷ []) xs) (first_fault ls ys)) (append_assoc before (line ∷ []) xs))
    ∙ out (fault_of before line) (first_fault (before ++ line ∷ []) xs) (first_fault (before ++ line ∷ xs) ys)
    ∙ ap (λ (o : Option GraphFault). option_or o (first_fault (before ++ line ∷ xs) ys)) (sym (first_fault-cons before xs line))
  where
    out : (k : Option GraphKind) (a b : Option GraphFault) → or_later before k (option_or a b) ≡ option_or (or_later before k a) b
    out None a b = refl
    out (Some kind) a b = refl

-- one faultless line more
pub first_fault-push : (before : List (List ℕ)) (line : List ℕ) → first_fault [] before ≡ None → fault_of before line ≡ None → first_fault [] (before ++ line ∷ []) ≡ None
first_fault-push before line clean none =
    first_fault-append [] before (line ∷ []) ∙ ap (λ (o : Option GraphFault). option_or o (first_fault before (line ∷ []))) clean
    ∙ first_fault-cons before [] line ∙ ap (λ (k : Option GraphKind). or_later before k (first_fault (before ++ line ∷ []) [])) none ∙ first_fault-nil (before ++ line ∷ [])

-- a faulty line, whatever follows it
pub first_fault-found : (before more : List (List ℕ)) (line : List ℕ) (kind : GraphKind) → first_fault [] before ≡ None → fault_of before line ≡ Some kind → first_fault [] ((before ++ line ∷ []) ++ more) ≡ Some (fault_at before kind)
first_fault-found before more line kind clean found =
    ap (first_fault []) (append_assoc before (line ∷ []) more)
    ∙ first_fault-append [] before (line ∷ more) ∙ ap (λ (o : Option GraphFault). option_or o (first_fault before (line ∷ more))) clean
    ∙ first_fault-cons before more line ∙ ap (λ (k : Option GraphKind). or_later before k (first_fault (before ++ line ∷ []) more)) found

-- the fault of a line, by what the lines before come to
pub fault_at_state : (before : List (List ℕ)) (line : List ℕ) (problem : Option Problem) (count : ℕ) → problem_in before ≡ problem → length (arcs_in before) ≡ count → line_fault problem count line ≡ None → fault_of before line ≡ None
unfolding fault_of
fault_at_state before line problem count p n clean =
    ap (λ (o : Option Problem). line_fault o (length (arcs_in before)) line) p ∙ ap (λ (k : ℕ). line_fault problem k line) n ∙ clean
