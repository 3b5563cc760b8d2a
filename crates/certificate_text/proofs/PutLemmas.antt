-- How texts that gather one after another make a whole.
use Rattle.std.proofs.Common.{◌≡◌, ℕ, ◌+◌, ◌<◌, List, [], ◌∷◌, ◌++◌, length, get_or, take, drop, append_assoc, Option, Result, Ok, Err, IsErr, sym, ap, ◌∙◌, subst, arith}
use Rattle.std.specs.List.{flat_map}
use Rattle.std.proofs.lemmas.List.{take_more, take-append-drop, flat_map_more}
use Rattle.std.proofs.lemmas.List.Concat.{flat_map-append}
use Rattle.road_io.specs.Told.{Told}
use Rattle.road_io.specs.Buffers.{pending, SendsPiece}
use Rattle.road_io.specs.Sink.{Writes}
use Rattle.road_io.specs.declared.buffers.Pending.{Pending}
use Rattle.road_io.specs.declared.writing.Put.{Put}
use Rattle.road_io.specs.declared.writing.Put.TheVariants.{Done, Failed}
use Rattle.road_io.proofs.CountLemmas.{HasRisen-later}
use Rattle.road_io.proofs.SinkLemmas.{Writes_both, Writes_failed, Writes_nothing}
use Rattle.road_text.specs.Pieces.{put_of, Appends}
use Rattle.certificate_text.specs.Putting.{PutsOn}

-- a text that gathered, and then another, are the two in one
sends_both : (first second p q r : List ℕ) (a b c : Option Told) (answer : Put) →
    SendsPiece (p ++ first) q a b Done → SendsPiece (q ++ second) r b c answer → SendsPiece (p ++ (first ++ second)) r a c answer
sends_both first second p q r a b c Done h k = (
  h.0 ++ k.0,
  sym (append_assoc p first second) ∙ (ap (λ (l : List ℕ). l ++ second) h.1 ∙ (append_assoc h.0 q second ∙ (ap (λ (l : List ℕ). h.0 ++ l) k.1 ∙ sym (append_assoc h.0 k.0 r)))),
  Writes_both h.0 k.0 a b c Done h.2 k.2,
)
sends_both first second p q r a b c Failed h k =
    let whole : h.0 ++ (q ++ second) ≡ p ++ (first ++ second) =
    sym (append_assoc h.0 q second) ∙ (ap (λ (l : List ℕ). l ++ second) (sym h.1) ∙ append_assoc p first second) in
    subst (λ (l : List ℕ). Writes l a c Failed) whole (Writes_both h.0 (q ++ second) a b c Failed h.2 k)

pub PutsOn_both : {S : Type 0} {written : S → Option Told} {faults : S → ℕ} {first second : List ℕ} {p q r : Pending} {a b c : S} {answer : Put} →
    PutsOn written faults first p q a b Done → PutsOn written faults second q r b c answer → PutsOn written faults (first ++ second) p r a c answer
PutsOn_both {written = written} {faults = faults} {first = first} {second = second} {p = p} {q = q} {r = r} {a = a} {b = b} {c = c} {answer = answer} h k = record {
  sends = sends_both first second (pending p) (pending q) (pending r) (written a) (written b) (written c) answer h.sends k.sends;
  count = (let early = h.count in let late = k.count in omega arith);
  cause = λ failed. HasRisen-later (faults a) (faults b) (faults c) h.count k.count (k.cause failed);
}

-- where the first of two texts failed, the two in one failed
pub PutsOn_failed : {S : Type 0} {written : S → Option Told} {faults : S → ℕ} {first : List ℕ} {p q : Pending} {a b : S} (second : List ℕ) →
    PutsOn written faults first p q a b Failed → PutsOn written faults (first ++ second) p q a b Failed
PutsOn_failed {written = written} {first = first} {p = p} {a = a} {b = b} second h = record {
  sends = subst (λ (l : List ℕ). Writes l (written a) (written b) Failed) (append_assoc (pending p) first second) (Writes_failed (pending p ++ first) second (written a) (written b) h.sends);
  count = h.count;
  cause = h.cause;
}

-- what failed, and is handed on as a failure
pub PutsOn_exit : {S : Type 0} {written : S → Option Told} {faults : S → ℕ} {text : List ℕ} {p q : Pending} {a b : S} {T E : Type 0} (result : Result T E) →
    IsErr result → PutsOn written faults text p q a b Failed → PutsOn written faults text p q a b (put_of result)
PutsOn_exit (Ok done) err h = cc
PutsOn_exit (Err failed) err h = h

-- what was put after what is pending
pub PutsOn_pushed : {S : Type 0} {written : S → Option Told} {faults : S → ℕ} {text : List ℕ} {p q : Pending} {a : S} →
    pending q ≡ pending p ++ text → PutsOn written faults text p q a a Done
PutsOn_pushed {written = written} {p = p} {a = a} pushed = record {
  sends = ([], sym pushed, Writes_nothing (written a));
  count = omega arith;
  cause = λ failed. cc;
}

-- room was made, and then a part was put into it
pub PutsOn_part : {S : Type 0} {written : S → Option Told} {faults : S → ℕ} {text : List ℕ} {p q r : Pending} {a b : S} →
    PutsOn written faults [] p q a b Done → pending r ≡ pending q ++ text → PutsOn written faults text p r a b Done
PutsOn_part h pushed = PutsOn_both h (PutsOn_pushed pushed)

-- a line of a head and of numbers
pub PutsOn_line : {S : Type 0} {written : S → Option Told} {faults : S → ℕ} {p q r t : Pending} {a b c : S} {answer : Put} (head numbers line : List ℕ) →
    head ++ numbers ++ 10 ∷ [] ≡ line → PutsOn written faults [] p q a b Done → pending r ≡ pending q ++ head → PutsOn written faults (numbers ++ 10 ∷ []) r t b c answer →
    PutsOn written faults line p t a c answer
PutsOn_line {written = written} {faults = faults} {p = p} {t = t} {a = a} {c = c} {answer = answer} head numbers line parts h pushed k =
    subst (λ (l : List ℕ). PutsOn written faults l p t a c answer) (sym (append_assoc head numbers (10 ∷ [])) ∙ parts) (PutsOn_both (PutsOn_part h pushed) k)

-- one more element's text
flat_map_taken : {X : Type 0} (f : X → List ℕ) (xs : List X) (i : ℕ) (d x : X) → i < length xs → x ≡ get_or xs i d → flat_map f (take (i + 1) xs) ≡ flat_map f (take i xs) ++ f x
flat_map_taken f xs i d x lt is =
    ap (λ (l : List _). flat_map f l) (take_more xs i d lt ∙ ap (λ (y : _). take i xs ++ y ∷ []) (sym is)) ∙ sym (flat_map_more f [] (take i xs) x)

-- the texts of the elements up to a place, and of those after it
flat_map_split : {X : Type 0} (f : X → List ℕ) (xs : List X) (i : ℕ) → flat_map f (take i xs) ++ flat_map f (drop i xs) ≡ flat_map f xs
flat_map_split f xs i = sym (flat_map-append f (take i xs) (drop i xs)) ∙ ap (λ (l : List _). flat_map f l) (take-append-drop i xs)

-- the text of a list, an element at a time
pub PutsOn_more : {S X : Type 0} (written : S → Option Told) (faults : S → ℕ) (f : X → List ℕ) (xs : List X) (i : ℕ) (d x : X) (p q r : Pending) (a b c : S) →
    i < length xs → x ≡ get_or xs i d →
    PutsOn written faults (flat_map f (take i xs)) p q a b Done → PutsOn written faults (f x) q r b c Done → PutsOn written faults (flat_map f (take (i + 1) xs)) p r a c Done
PutsOn_more written faults f xs i d x p q r a b c lt is h k =
    subst (λ (l : List ℕ). PutsOn written faults l p r a c Done) (sym (flat_map_taken f xs i d x lt is)) (PutsOn_both h k)

-- where an element's text failed, that of the list failed
pub PutsOn_cut : {S X : Type 0} (written : S → Option Told) (faults : S → ℕ) (f : X → List ℕ) (xs : List X) (i : ℕ) (d x : X) (p q r : Pending) (a b c : S) →
    i < length xs → x ≡ get_or xs i d →
    PutsOn written faults (flat_map f (take i xs)) p q a b Done → PutsOn written faults (f x) q r b c Failed → PutsOn written faults (flat_map f xs) p r a c Failed
PutsOn_cut written faults f xs i d x p q r a b c lt is h k =
    let whole : (flat_map f (take i xs) ++ f x) ++ flat_map f (drop (i + 1) xs) ≡ flat_map f xs =
    ap (λ (l : List ℕ). l ++ flat_map f (drop (i + 1) xs)) (sym (flat_map_taken f xs i d x lt is)) ∙ flat_map_split f xs (i + 1) in
    subst (λ (l : List ℕ). PutsOn written faults l p r a c Failed) whole (PutsOn_failed (flat_map f (drop (i + 1) xs)) (PutsOn_both h k))

-- what gathered from nothing, and failed on the way
pub PutsOn_lost : {S : Type 0} {written : S → Option Told} {faults : S → ℕ} {p q : Pending} {a b : S} (text whole : List ℕ) →
    text ≡ whole → pending p ≡ [] → PutsOn written faults text p q a b Failed → Appends written faults whole a b Failed
PutsOn_lost {written = written} {a = a} {b = b} text whole parts empty h = record {
  writes = subst (λ (l : List ℕ). Writes l (written a) (written b) Failed) (ap (λ (l : List ℕ). l ++ text) empty ∙ parts) h.sends;
  count = h.count;
  cause = h.cause;
}

-- what gathered from nothing, with the rest sent at the end
pub PutsOn_sent : {S : Type 0} {written : S → Option Told} {faults : S → ℕ} {p q : Pending} {a b c : S} {answer : Put} (text whole : List ℕ) →
    text ≡ whole → pending p ≡ [] → PutsOn written faults text p q a b Done → Appends written faults (pending q) b c answer → Appends written faults whole a c answer
PutsOn_sent {written = written} {faults = faults} {q = q} {a = a} {b = b} {c = c} {answer = answer} text whole parts empty h k = record {
  writes = subst (λ (l : List ℕ). Writes l (written a) (written c) answer) (sym h.sends.1 ∙ (ap (λ (l : List ℕ). l ++ text) empty ∙ parts))
      (Writes_both h.sends.0 (pending q) (written a) (written b) (written c) answer h.sends.2 k.writes);
  count = (let early = h.count in let late = k.count in omega arith);
  cause = λ failed. HasRisen-later (faults a) (faults b) (faults c) h.count k.count (k.cause failed);
}
