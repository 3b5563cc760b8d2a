-- Where the batches of chunks stand in their list.
use Rattle.std.proofs.Common.{◌≡◌, ◌+◌, ◌*◌, ◌<◌, ◌≤◌, ◌++◌, ℕ, zero, suc, List, [], ◌∷◌, length, Some, None, refl, sym, ap, ◌∙◌, subst, arith, slice_get, append_assoc, length-append}
use Rattle.std.specs.Prelude.{All}
use Rattle.std.specs.List.{AllByRecursion, flat_map}
use Rattle.std.proofs.lemmas.List.Elements.{recursion_from_All, All-from_recursion, All-append}
use Rattle.road_model.specs.declared.change.Change.{Change}
use Rattle.road_model.specs.declared.planner.TheConstants.{LAST_VERSION}
use Rattle.route_engine.specs.Past.{joined, AreChunks}

abbrev Full : List (List Change) → Type 0
Full chunk = length chunk ≡ 1024

abbrev AreFull : List (List (List Change)) → Type 0
AreFull full = AllByRecursion Full full

slice_get-left : {X : Type 0} (xs ys : List X) (i : ℕ) → i < length xs → slice_get (xs ++ ys) i ≡ slice_get xs i
slice_get-left [] ys i within = absurd (omega arith)
slice_get-left (x ∷ xs) ys zero within = refl
slice_get-left (x ∷ xs) ys (suc i) within = slice_get-left xs ys i (omega arith)

slice_get-right : {X : Type 0} (xs ys : List X) (n i : ℕ) → n ≡ length xs + i → slice_get (xs ++ ys) n ≡ slice_get ys i
slice_get-right [] ys n i is = let e : n ≡ i = omega arith in ap (slice_get ys) e
slice_get-right (x ∷ xs) ys zero i is = absurd (omega arith)
slice_get-right (x ∷ xs) ys (suc n) i is = slice_get-right xs ys n i (omega arith)

length-flat : (full : List (List (List Change))) → AreFull full → length (flat_map (λ chunk. chunk) full) ≡ length full * 1024
length-flat [] all = refl
length-flat (chunk ∷ full) all = omega (arith, all.0, length-append chunk (flat_map (λ chunk. chunk) full), length-flat full all.1)

pub length-joined : (full : List (List (List Change))) (last : List (List Change)) → AreChunks full last → length (joined full last) ≡ length full * 1024 + length last
length-joined full last h =
    omega (arith, length-append (flat_map (λ chunk. chunk) full) last, length-flat full (recursion_from_All Full full h.full_chunks))

joined-cons : (first : List (List Change)) (full : List (List (List Change))) (last : List (List Change)) → joined (first ∷ full) last ≡ first ++ joined full last
joined-cons first full last = rw append_assoc refl

-- a batch of a full chunk
in_full : (full : List (List (List Change))) (last : List (List Change)) (q r n : ℕ) (chunk : List (List Change)) → AreFull full → r < 1024 → n ≡ q * 1024 + r → Some chunk ≡ slice_get full q → slice_get (joined full last) n ≡ slice_get chunk r
in_full [] last q r n chunk all low is found = absurd (let e : Some chunk ≡ None = found in cc)
in_full (first ∷ full) last zero r n chunk all low is found =
    let same : chunk ≡ first = let e : Some chunk ≡ Some first = found in cc in
    let at : n ≡ r = omega arith in
    let within : n < length first = omega (arith, all.0) in
    ap (λ (xs : List (List Change)). slice_get xs n) (joined-cons first full last)
    ∙ slice_get-left first (joined full last) n within
    ∙ ap (λ (xs : List (List Change)). slice_get xs n) (sym same)
    ∙ ap (slice_get chunk) at
in_full (first ∷ full) last (suc q) r n chunk all low is found =
    ap (λ (xs : List (List Change)). slice_get xs n) (joined-cons first full last)
    ∙ slice_get-right first (joined full last) n (q * 1024 + r) (omega (arith, all.0))
    ∙ in_full full last q r (q * 1024 + r) chunk all.1 low refl found

pub slice_get-full : (full : List (List (List Change))) (last : List (List Change)) (q r n : ℕ) (chunk : List (List Change)) → AreChunks full last → r < 1024 → n ≡ q * 1024 + r → Some chunk ≡ slice_get full q → slice_get (joined full last) n ≡ slice_get chunk r
slice_get-full full last q r n chunk h low is found = in_full full last q r n chunk (recursion_from_All Full full h.full_chunks) low is found

-- one of the last chunk
pub slice_get-last : (full : List (List (List Change))) (last : List (List Change)) (n i : ℕ) → AreChunks full last → n ≡ length full * 1024 + i → slice_get (joined full last) n ≡ slice_get last i
slice_get-last full last n i h is =
    slice_get-right (flat_map (λ chunk. chunk) full) last n i (omega (arith, length-flat full (recursion_from_All Full full h.full_chunks)))

-- the last chunk has become full
pub chunk_added : (full : List (List (List Change))) (last grown : List (List Change)) (batch : List Change) (now : List (List Change)) (more : List (List (List Change))) → AreChunks full last → joined full last ≡ now → length now + 1 < LAST_VERSION → grown ≡ last ++ batch ∷ [] → 1024 ≤ length grown → more ≡ full ++ grown ∷ [] → AreChunks more []
chunk_added full last grown batch now more h is short longer enough added =
    let grows : length grown ≡ length last + 1 = omega (arith, ap length longer, length-append last (batch ∷ [])) in
    let size : length grown ≡ 1024 = omega (arith, h.last_chunk) in
    let P : List (List (List Change)) → Type 0 = All Full in
    let many : length more ≡ length full + 1 = omega (arith, ap length added, length-append full (grown ∷ [])) in
    record {
      full_chunks = subst P (sym added) (All-append Full full (grown ∷ []) h.full_chunks (All-from_recursion Full (grown ∷ []) (size, tt)));
      last_chunk = omega arith;
      few = omega (arith, h.last_chunk, length-joined full last h, ap length is);
    }

-- nothing stands past the end
pub past_end : {X : Type 0} (xs : List X) (n : ℕ) → None ≡ slice_get xs n → length xs ≤ n
past_end [] n is = omega arith
past_end (x ∷ xs) zero is = absurd (let e : None ≡ Some x = is in cc)
past_end (x ∷ xs) (suc n) is = let rest : length xs ≤ n = past_end xs n is in omega arith
