-- What the buffer of a reader holds after a step.
use Rattle.std.proofs.Common.{◌≡◌, ℕ, ◌+◌, ◌-◌, ◌≤◌, List, ◌++◌, drop, take, sym, ap, ◌∙◌, arith, append_assoc, take-add}
use Rattle.std.specs.List.{between}
use Rattle.std.proofs.lemmas.List.{take-take, drop-drop, drop-take}
use Rattle.std.proofs.lemmas.Slice.{between_from_start}

-- a piece after the held bytes, which stand at the front
pub between-grown : (xs ys : List ℕ) (start from room n : ℕ) → start ≡ 0 → take from ys ≡ take from xs → n ≤ room → between start (from + n) ys ≡ between start from xs ++ take n (between from (from + room) ys)
between-grown xs ys start from room n prefix same few =
    let piece : take n (between from (from + room) ys) ≡ take n (drop from ys) = ap (λ (k : ℕ). take n (take k (drop from ys))) (omega arith) ∙ take-take n room (drop from ys) few in
    ap (λ (s : ℕ). between s (from + n) ys) prefix
    ∙ between_from_start ys (from + n)
    ∙ take-add from n ys
    ∙ ap (λ (zs : List ℕ). zs ++ take n (drop from ys)) (same ∙ sym (between_from_start xs from) ∙ ap (λ (s : ℕ). between s from xs) (sym prefix))
    ∙ ap (λ (zs : List ℕ). between start from xs ++ zs) (sym piece)

-- the text is the same, held or still to come
pub text_same : (held grown piece before after : List ℕ) → grown ≡ held ++ piece → before ≡ piece ++ after → held ++ before ≡ grown ++ after
text_same held grown piece before after g e =
    ap (λ (zs : List ℕ). held ++ zs) e ∙ sym (append_assoc held piece after) ∙ ap (λ (zs : List ℕ). zs ++ after) (sym g)

-- what is held after the first bytes of what was held
pub between-drop : (xs : List ℕ) (start end' k : ℕ) → start + k ≤ end' → between (start + k) end' xs ≡ drop k (between start end' xs)
between-drop xs start end' k le =
    ap (λ (n : ℕ). take n (drop (start + k) xs)) (omega arith)
    ∙ ap (λ (ys : List ℕ). take (end' - start - k) ys) (sym (drop-drop k start xs))
    ∙ sym (drop-take k (end' - start - k) (drop start xs))
    ∙ ap (λ (n : ℕ). drop k (take n (drop start xs))) (omega arith)
