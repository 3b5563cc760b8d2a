-- Steps in a row.
use Rattle.std.proofs.Common.{◌≡◌, ℕ, ◌+◌, ◌≤◌, zero, suc, None, refl, sym, ap, ◌∙◌, subst, arith}
use Rattle.recheck.specs.Runs.{IsStep, Leads}

pub leads_push : (R : ℕ → ℕ → Type 0) (u : ℕ) (n : ℕ) (v w : ℕ) → Leads R u n v → R v w → Leads R u (suc n) w
leads_push R u zero v w h r = (w, subst (λ (x : ℕ). R x w) (sym h) r, refl)
leads_push R u (suc n) v w h r = (h.0, h.1, leads_push R h.0 n v w h.2 r)

-- the same steps, read from the end
pub leads_back : (R : ℕ → ℕ → Type 0) (u : ℕ) (n : ℕ) (v : ℕ) → Leads R u n v → Leads (λ (x y : ℕ). R y x) v n u
leads_back R u zero v h = sym h
leads_back R u (suc n) v h = leads_push (λ (x y : ℕ). R y x) v n h.0 u (leads_back R h.0 n v h.2) h.1

module _ (R : ℕ → ℕ → Type 0) (once : (u v w : ℕ) → R u v → R u w → v ≡ w) where
  pub leads_same : (u : ℕ) (n : ℕ) (v w : ℕ) → Leads R u n v → Leads R u n w → v ≡ w
  leads_same u zero v w h k = sym h ∙ k
  leads_same u (suc n) v w h k =
      let one : h.0 ≡ k.0 = once u h.0 k.0 h.1 k.1 in
      leads_same h.0 n v w h.2 (subst (λ (x : ℕ). Leads R x n w) (sym one) k.2)

  -- where no step leads on from an end, each vertex that steps lead to is on the way there
  pub leads_to_end : (u : ℕ) (n k : ℕ) (end w : ℕ) → Leads R u n end → IsStep R end None → Leads R u k w → (j : ℕ) × (k + j ≡ n) × Leads R w j end
  leads_to_end u n zero end w h ended k = (n, omega arith, subst (λ (x : ℕ). Leads R x n end) k h)
  leads_to_end u zero (suc k) end w h ended l = absurd (ended l.0 (subst (λ (x : ℕ). R x l.0) h l.1))
  leads_to_end u (suc n) (suc k) end w h ended l =
      let one : h.0 ≡ l.0 = once u h.0 l.0 h.1 l.1 in
      let rest = leads_to_end h.0 n k end w h.2 ended (subst (λ (x : ℕ). Leads R x k w) (sym one) l.2) in
      (rest.0, omega (arith, rest.1), rest.2)

-- what each step keeps, all steps keep
pub leads_keep : (R : ℕ → ℕ → Type 0) (P : ℕ → Type 0) → ((u v : ℕ) → P u → R u v → P v) → (u : ℕ) (n : ℕ) (v : ℕ) → P u → Leads R u n v → P v
leads_keep R P keeps u zero v p h = subst P h p
leads_keep R P keeps u (suc n) v p h = leads_keep R P keeps h.0 n v (keeps u h.0 p h.1) h.2

-- and a number that rises along each step rises along all
pub leads_rise : (R : ℕ → ℕ → Type 0) (f : ℕ → ℕ) → ((u v : ℕ) → R u v → f u ≤ f v) → (u : ℕ) (n : ℕ) (v : ℕ) → Leads R u n v → f u ≤ f v
leads_rise R f rises u zero v h = let e : f u ≡ f v = ap f h in omega arith
leads_rise R f rises u (suc n) v h = omega (arith, rises u h.0 h.1, leads_rise R f rises h.0 n v h.2)
