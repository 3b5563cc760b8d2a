-- Laws of keys: two are the same exactly where they are equal.
--   hash_writes key   what is hashed of a key
use Rattle.std.specs.Prelude.{◌≡◌, ℕ, ◌==◌, ◌&&◌, ◌++◌, List, Bool, true, false, refl}
use Rattle.std.specs.Bool.{Decides}
use Rattle.std.specs.Cmp.{IsEquivalence, unsigned_Decides, decided}
use Rattle.std.specs.Hash as fed
use Rattle.std.proofs.Common.{ap, subst}
use Rattle.road_model.specs.declared.request.CursorQuery.{CursorQuery}
use Rattle.desk_core.specs.States.{Key, same_pair, same_query, same_key}

both : (a b : Bool) → a && b ≡ true → (a ≡ true) × (b ≡ true)
both true b e = (refl, e)
both false b e = (e, let f : false ≡ true = e in cc)

both_true : (a b : Bool) → a ≡ true → b ≡ true → a && b ≡ true
both_true true b p q = q
both_true false b p q = p

same_number : (a b : ℕ) → (a == b) ≡ true → a ≡ b
same_number a b = (unsigned_Decides a b).0

itself : (a : ℕ) → (a == a) ≡ true
itself a = (unsigned_Decides a a).1 refl

pair_is : (a b : ℕ × ℕ) → same_pair a b ≡ true → a ≡ b
pair_is (a, b) (c, d) e =
    let h = both (a == c) (b == d) e in
    let p : a ≡ c = same_number a c h.0 in
    let q : b ≡ d = same_number b d h.1 in
    cc

pair_itself : (a : ℕ × ℕ) → same_pair a a ≡ true
pair_itself a = both_true (a.0 == a.0) (a.1 == a.1) (itself a.0) (itself a.1)

abbrev query_from : ℕ → ℕ → ℕ × ℕ → ℕ × ℕ → ℕ × ℕ → CursorQuery
query_from from to gamma alpha epsilon = record { from = from; to = to; gamma = gamma; alpha = alpha; epsilon = epsilon }

equal_queries : (f u t v : ℕ) (g h a b e d : ℕ × ℕ) → f ≡ u → t ≡ v → g ≡ h → a ≡ b → e ≡ d → query_from f t g a e ≡ query_from u v h b d
equal_queries f u t v g h a b e d p q r s o = cc

query_is : (a b : CursorQuery) → same_query a b ≡ true → a ≡ b
query_is a b e =
    let h = both (a.from == b.from) _ e in
    let k = both (a.to == b.to) _ h.1 in
    let l = both (same_pair a.gamma b.gamma) _ k.1 in
    let m = both (same_pair a.alpha b.alpha) _ l.1 in
    equal_queries a.from b.from a.to b.to a.gamma b.gamma a.alpha b.alpha a.epsilon b.epsilon (same_number a.from b.from h.0) (same_number a.to b.to k.0)
    (pair_is a.gamma b.gamma l.0) (pair_is a.alpha b.alpha m.0) (pair_is a.epsilon b.epsilon m.1)

query_itself : (a : CursorQuery) → same_query a a ≡ true
query_itself a =
    both_true (a.from == a.from) _ (itself a.from)
    (both_true (a.to == a.to) _ (itself a.to)
    (both_true (same_pair a.gamma a.gamma) _ (pair_itself a.gamma)
    (both_true (same_pair a.alpha a.alpha) _ (pair_itself a.alpha) (pair_itself a.epsilon))))

abbrev key_from : ℕ → CursorQuery → Key
key_from version query = record { version = version; query = query }

equal_keys : (v w : ℕ) (q r : CursorQuery) → v ≡ w → q ≡ r → key_from v q ≡ key_from w r
equal_keys v w q r d e = cc

key_is : (a b : Key) → same_key a b ≡ true → a ≡ b
key_is a b e =
    let h = both (a.version == b.version) _ e in
    equal_keys a.version b.version a.query b.query (same_number a.version b.version h.0) (query_is a.query b.query h.1)

key_itself : (a : Key) → same_key a a ≡ true
key_itself a = both_true (a.version == a.version) _ (itself a.version) (query_itself a.query)

pub same_key_decides : (a b : Key) → Decides (same_key a b) (a ≡ b)
same_key_decides a b = (key_is a b, λ e. subst (λ (k : Key). same_key a k ≡ true) e (key_itself a))

pub same_key_equivalence : IsEquivalence same_key
same_key_equivalence = decided same_key same_key_decides

abbrev pub hash_writes : Key → List (List ℕ)
hash_writes key = fed.u64 key.version ++ fed.u64 key.query.from ++ fed.u64 key.query.to

pub same_key_hashes : (a b : Key) → same_key a b ≡ true → hash_writes a ≡ hash_writes b
same_key_hashes a b e = ap hash_writes (key_is a b e)
