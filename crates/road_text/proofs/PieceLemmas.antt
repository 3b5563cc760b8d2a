-- How pieces that are written one after another make a whole.
use Rattle.std.proofs.Common.{◌≡◌, ℕ, ◌+◌, ◌<◌, List, [], ◌∷◌, ◌++◌, length, get_or, take, drop, append-nil, Option, Result, Ok, Err, IsErr, sym, ap, ◌∙◌, subst, arith}
use Rattle.std.specs.List.{flat_map}
use Rattle.std.proofs.lemmas.List.{take_more, take-append-drop}
use Rattle.std.proofs.lemmas.List.Concat.{flat_map-append}
use Rattle.road_io.specs.Told.{Told}
use Rattle.road_io.specs.declared.writing.Put.{Put}
use Rattle.road_io.specs.declared.writing.Put.TheVariants.{Done, Failed}
use Rattle.road_io.proofs.CountLemmas.{HasRisen-later}
use Rattle.road_io.proofs.SinkLemmas.{Writes_both, Writes_failed}
use Rattle.road_text.specs.Pieces.{put_of, Appends}

-- a piece that was written, and then another, are the two in one
pub Appends_both : {S : Type 0} {written : S → Option Told} {faults : S → ℕ} {first second : List ℕ} {a b c : S} {answer : Put} →
    Appends written faults first a b Done → Appends written faults second b c answer → Appends written faults (first ++ second) a c answer
Appends_both {written = written} {faults = faults} {first = first} {second = second} {a = a} {b = b} {c = c} {answer = answer} h k = record {
  writes = Writes_both first second (written a) (written b) (written c) answer h.writes k.writes;
  count = (let early = h.count in let late = k.count in omega arith);
  cause = λ failed. HasRisen-later (faults a) (faults b) (faults c) h.count k.count (k.cause failed);
}

-- where the first of two pieces failed, the two in one failed
pub Appends_failed : {S : Type 0} {written : S → Option Told} {faults : S → ℕ} {first : List ℕ} {a b : S} (second : List ℕ) →
    Appends written faults first a b Failed → Appends written faults (first ++ second) a b Failed
Appends_failed {written = written} {first = first} {a = a} {b = b} second h = record {
  writes = Writes_failed first second (written a) (written b) h.writes;
  count = h.count;
  cause = h.cause;
}

-- what failed, and is handed on as a failure
pub Appends_exit : {S : Type 0} {written : S → Option Told} {faults : S → ℕ} {text : List ℕ} {a b : S} {T E : Type 0} (result : Result T E) →
    IsErr result → Appends written faults text a b Failed → Appends written faults text a b (put_of result)
Appends_exit (Ok done) err h = cc
Appends_exit (Err failed) err h = h

-- one more element's text
flat_map_taken : {X : Type 0} (f : X → List ℕ) (xs : List X) (i : ℕ) (x : X) → i < length xs → x ≡ get_or xs i x → flat_map f (take (i + 1) xs) ≡ flat_map f (take i xs) ++ f x
flat_map_taken f xs i x lt is =
    ap (λ (l : List _). flat_map f l) (take_more xs i x lt)
    ∙ (flat_map-append f (take i xs) (get_or xs i x ∷ [])
    ∙ ap (λ (l : List ℕ). flat_map f (take i xs) ++ l) (append-nil (f (get_or xs i x)) ∙ ap f (sym is)))

-- the texts of the elements up to a place, and of those after it
flat_map_split : {X : Type 0} (f : X → List ℕ) (xs : List X) (i : ℕ) → flat_map f (take i xs) ++ flat_map f (drop i xs) ≡ flat_map f xs
flat_map_split f xs i = sym (flat_map-append f (take i xs) (drop i xs)) ∙ ap (λ (l : List _). flat_map f l) (take-append-drop i xs)

-- the text of a list, an element at a time
pub Appends_more : {S X : Type 0} (written : S → Option Told) (faults : S → ℕ) (f : X → List ℕ) (xs : List X) (i : ℕ) (x : X) (a b c : S) →
    i < length xs → x ≡ get_or xs i x →
    Appends written faults (flat_map f (take i xs)) a b Done → Appends written faults (f x) b c Done → Appends written faults (flat_map f (take (i + 1) xs)) a c Done
Appends_more written faults f xs i x a b c lt is h k =
    subst (λ (l : List ℕ). Appends written faults l a c Done) (sym (flat_map_taken f xs i x lt is)) (Appends_both h k)

-- where an element's text failed, that of the list failed
pub Appends_cut : {S X : Type 0} (written : S → Option Told) (faults : S → ℕ) (f : X → List ℕ) (xs : List X) (i : ℕ) (x : X) (a b c : S) →
    i < length xs → x ≡ get_or xs i x →
    Appends written faults (flat_map f (take i xs)) a b Done → Appends written faults (f x) b c Failed → Appends written faults (flat_map f xs) a c Failed
Appends_cut written faults f xs i x a b c lt is h k =
    let whole : (flat_map f (take i xs) ++ f x) ++ flat_map f (drop (i + 1) xs) ≡ flat_map f xs =
    ap (λ (l : List ℕ). l ++ flat_map f (drop (i + 1) xs)) (sym (flat_map_taken f xs i x lt is)) ∙ flat_map_split f xs (i + 1) in
    subst (λ (l : List ℕ). Appends written faults l a c Failed) whole (Appends_failed (flat_map f (drop (i + 1) xs)) (Appends_both h k))
