-- Links that have a shorter walk between their ends aren't needed.
use Rattle.std.proofs.Common.{◌≡◌, ◌+◌, ◌<◌, ◌≤◌, ◌⊎◌, ℕ, zero, suc, List, [], ◌∷◌, slice_index, subst, arith, inl, inr, ⊎_elim}
use Rattle.std.proofs.lemmas.Bool.{cases_lt}
use Rattle.road_model.specs.Graph.{Graph, IsVertex}
use Rattle.road_model.specs.Walk.{IsWalk, walk_length}
use Rattle.road_model.specs.Dist.{HasWalk}
use Rattle.hierarchy_build.specs.declared.links.Links.{Links}
use Rattle.hierarchy_build.specs.Hills.{IsRise, rise_length, Hill, HillWithin, IsSound, HasHills}
use Rattle.hierarchy_build.specs.Lengths.{LinkAt, AreWalks, Falls}
use Rattle.hierarchy_build.specs.Links.{links_of, AreKept}
use Rattle.hierarchy_build.proofs.Hills.{HasWalk-joined, walk_up, walk_down}

-- some walk is shorter
pub record HasShorter (g : Graph) (u v k : ℕ) : Type 0 where
  pub long : ℕ
  pub walk : HasWalk g u v long
  pub less : long < k

-- what is kept of the links, and that nothing else is needed
pub record Thins (g : Graph) (name : ℕ → ℕ) (U D U' D' : ℕ → ℕ → ℕ → Type 0) : Type 0 where
  pub up_only : (a b x : ℕ) → U' a b x → U a b x
  pub down_only : (a b x : ℕ) → D' a b x → D a b x
  pub up : (a b x : ℕ) → U a b x → U' a b x ⊎ HasShorter g (name a) (name b) x
  pub down : (a b x : ℕ) → D a b x → D' a b x ⊎ HasShorter g (name b) (name a) x

rise_kept : (g : Graph) (name : ℕ → ℕ) (U D U' D' : ℕ → ℕ → ℕ → Type 0) → IsSound g name U D → Thins g name U D U' D' → (p : List (ℕ × ℕ)) (a b : ℕ) → IsRise U a p b → IsRise U' a p b ⊎ HasShorter g (name a) (name b) (rise_length p)
rise_kept g name U D U' D' sound thins [] a b rise = inl rise
rise_kept g name U D U' D' sound thins (s ∷ p) a b rise =
    ⊎_elim
    (λ (link : U' a s.0 s.1).
    ⊎_elim
    (λ (rest : IsRise U' s.0 p b). let r : IsRise U' a (s ∷ p) b ⊎ HasShorter g (name a) (name b) (s.1 + rise_length p) = inl (link, rest) in r)
    (λ (short : HasShorter g (name s.0) (name b) (rise_length p)).
    let less = short.less in
    let r : IsRise U' a (s ∷ p) b ⊎ HasShorter g (name a) (name b) (s.1 + rise_length p) =
    inr (record { long = s.1 + short.long; walk = HasWalk-joined g (name a) (name s.0) (name b) s.1 short.long (sound.up a s.0 s.1 rise.0) short.walk; less = omega arith }) in r)
    (rise_kept g name U D U' D' sound thins p s.0 b rise.1))
    (λ (short : HasShorter g (name a) (name s.0) s.1).
    let less = short.less in
    let r : IsRise U' a (s ∷ p) b ⊎ HasShorter g (name a) (name b) (s.1 + rise_length p) =
    inr (record { long = short.long + rise_length p; walk = HasWalk-joined g (name a) (name s.0) (name b) short.long (rise_length p) short.walk (walk_up g name U D sound p s.0 b rise.1); less = omega arith }) in r)
    (thins.up a s.0 s.1 rise.0)

fall_kept : (g : Graph) (name : ℕ → ℕ) (U D U' D' : ℕ → ℕ → ℕ → Type 0) → IsSound g name U D → Thins g name U D U' D' → (p : List (ℕ × ℕ)) (a b : ℕ) → IsRise D a p b → IsRise D' a p b ⊎ HasShorter g (name b) (name a) (rise_length p)
fall_kept g name U D U' D' sound thins [] a b fall = inl fall
fall_kept g name U D U' D' sound thins (s ∷ p) a b fall =
    ⊎_elim
    (λ (link : D' a s.0 s.1).
    ⊎_elim
    (λ (rest : IsRise D' s.0 p b). let r : IsRise D' a (s ∷ p) b ⊎ HasShorter g (name b) (name a) (s.1 + rise_length p) = inl (link, rest) in r)
    (λ (short : HasShorter g (name b) (name s.0) (rise_length p)).
    let less = short.less in
    let r : IsRise D' a (s ∷ p) b ⊎ HasShorter g (name b) (name a) (s.1 + rise_length p) =
    inr (record { long = short.long + s.1; walk = HasWalk-joined g (name b) (name s.0) (name a) short.long s.1 short.walk (sound.down a s.0 s.1 fall.0); less = omega arith }) in r)
    (fall_kept g name U D U' D' sound thins p s.0 b fall.1))
    (λ (short : HasShorter g (name s.0) (name a) s.1).
    let less = short.less in
    let r : IsRise D' a (s ∷ p) b ⊎ HasShorter g (name b) (name a) (s.1 + rise_length p) =
    inr (record { long = rise_length p + short.long; walk = HasWalk-joined g (name b) (name s.0) (name a) (rise_length p) short.long (walk_down g name U D sound p s.0 b fall.1) short.walk; less = omega arith }) in r)
    (thins.down a s.0 s.1 fall.0)

-- a hill stays, or some walk is shorter than it
hill_kept : (g : Graph) (name : ℕ → ℕ) (U D U' D' : ℕ → ℕ → ℕ → Type 0) → IsSound g name U D → Thins g name U D U' D' → (a b : ℕ) (h : Hill U D a b) → HillWithin U' D' a b (rise_length h.rise + rise_length h.fall) ⊎ HasShorter g (name a) (name b) (rise_length h.rise + rise_length h.fall)
hill_kept g name U D U' D' sound thins a b h =
    ⊎_elim
    (λ (rise : IsRise U' a h.rise h.top).
    ⊎_elim
    (λ (fall : IsRise D' b h.fall h.top).
    let whole : Hill U' D' a b = record { top = h.top; rise = h.rise; fall = h.fall; is_rise = rise; is_fall = fall } in
    let r : HillWithin U' D' a b (rise_length h.rise + rise_length h.fall) ⊎ HasShorter g (name a) (name b) (rise_length h.rise + rise_length h.fall) = inl (record { hill = whole; within = omega arith }) in r)
    (λ (short : HasShorter g (name h.top) (name b) (rise_length h.fall)).
    let less = short.less in
    let r : HillWithin U' D' a b (rise_length h.rise + rise_length h.fall) ⊎ HasShorter g (name a) (name b) (rise_length h.rise + rise_length h.fall) =
    inr (record { long = rise_length h.rise + short.long; walk = HasWalk-joined g (name a) (name h.top) (name b) (rise_length h.rise) short.long (walk_up g name U D sound h.rise a h.top h.is_rise) short.walk; less = omega arith }) in r)
    (fall_kept g name U D U' D' sound thins h.fall b h.top h.is_fall))
    (λ (short : HasShorter g (name a) (name h.top) (rise_length h.rise)).
    let less = short.less in
    let r : HillWithin U' D' a b (rise_length h.rise + rise_length h.fall) ⊎ HasShorter g (name a) (name b) (rise_length h.rise + rise_length h.fall) =
    inr (record { long = short.long + rise_length h.fall; walk = HasWalk-joined g (name a) (name h.top) (name b) short.long (rise_length h.fall) short.walk (walk_down g name U D sound h.fall b h.top h.is_fall); less = omega arith }) in r)
    (rise_kept g name U D U' D' sound thins h.rise a h.top h.is_rise)

-- so the hill of a shortest walk stays: each walk has one, by taking a shorter walk as long as its hill is lost
hill_pressed : (cap : ℕ) (g : Graph) (name rank : ℕ → ℕ) (U D U' D' : ℕ → ℕ → ℕ → Type 0) → ((v : ℕ) → IsVertex g.vertices v → name (rank v) ≡ v) → HasHills cap g rank U D → IsSound g name U D → Thins g name U D U' D' → (bound u v : ℕ) (p : List ℕ) → IsVertex g.vertices u → IsVertex g.vertices v → IsWalk g u p v → walk_length g p < cap → walk_length g p < bound → HillWithin U' D' (rank u) (rank v) (walk_length g p)
hill_pressed cap g name rank U D U' D' back hills sound thins zero u v p is_u is_v walk low below = absurd (omega arith)
hill_pressed cap g name rank U D U' D' back hills sound thins (suc bound) u v p is_u is_v walk low below =
    let found : HillWithin U D (rank u) (rank v) (walk_length g p) = hills u v p is_u is_v walk low in
    let within = found.within in
    ⊎_elim
    (λ (kept : HillWithin U' D' (rank u) (rank v) (rise_length found.hill.rise + rise_length found.hill.fall)).
    let r : HillWithin U' D' (rank u) (rank v) (walk_length g p) = record { hill = kept.hill; within = omega (arith, kept.within) } in r)
    (λ (short : HasShorter g (name (rank u)) (name (rank v)) (rise_length found.hill.rise + rise_length found.hill.fall)).
    let other : HasWalk g u v short.long = subst (λ (n : ℕ). HasWalk g n v short.long) (back u is_u) (subst (λ (n : ℕ). HasWalk g (name (rank u)) n short.long) (back v is_v) short.walk) in
    let less = short.less in
    let long = other.long in
    let again : HillWithin U' D' (rank u) (rank v) (walk_length g other.path) = hill_pressed cap g name rank U D U' D' back hills sound thins bound u v other.path is_u is_v other.walk (omega arith) (omega arith) in
    let r : HillWithin U' D' (rank u) (rank v) (walk_length g p) = record { hill = again.hill; within = omega (arith, again.within) } in r)
    (hill_kept g name U D U' D' sound thins (rank u) (rank v) found.hill)

pub HasHills-thinned : (cap : ℕ) (g : Graph) (name rank : ℕ → ℕ) (U D U' D' : ℕ → ℕ → ℕ → Type 0) → ((v : ℕ) → IsVertex g.vertices v → name (rank v) ≡ v) → HasHills cap g rank U D → IsSound g name U D → Thins g name U D U' D' → HasHills cap g rank U' D'
HasHills-thinned cap g name rank U D U' D' back hills sound thins u v p is_u is_v walk low =
    hill_pressed cap g name rank U D U' D' back hills sound thins (suc (walk_length g p)) u v p is_u is_v walk low (omega arith)

pub IsSound-thinned : (g : Graph) (name : ℕ → ℕ) (U D U' D' : ℕ → ℕ → ℕ → Type 0) → IsSound g name U D → Thins g name U D U' D' → IsSound g name U' D'
IsSound-thinned g name U D U' D' sound thins =
    record {
      up = (λ a b x link. sound.up a b x (thins.up_only a b x link));
      down = (λ a b x link. sound.down a b x (thins.down_only a b x link));
    }

-- the links at whose places no shorter walk is known
pub Thins-kept : (g : Graph) (order : List ℕ) (n : ℕ) (first head up down best_up best_down : List ℕ) (rising falling : Links) → Falls 0 up best_up → Falls 0 down best_down → AreWalks g order n first head best_up best_down → AreKept n first head up best_up rising → AreKept n first head down best_down falling → Thins g (slice_index order) (LinkAt n first head up) (LinkAt n first head down) (links_of n rising) (links_of n falling)
Thins-kept g order n first head up down best_up best_down rising falling rise fall walks kept_up kept_down =
    record {
      up_only = (λ a b x link. (kept_up.only a b x link).link);
      down_only = (λ a b x link. (kept_down.only a b x link).link);
      up = (λ a b x link.
          let k : ℕ = link.place in
          let long = link.long in
          let real = link.real in
          let less = rise.falls link.place in
          ⊎_elim
          (λ (short : slice_index best_up link.place < slice_index up link.place).
          let walk : HasWalk g (slice_index order a) (slice_index order b) (slice_index best_up link.place) =
          subst (λ (z : ℕ). HasWalk g (slice_index order a) (slice_index order z) (slice_index best_up link.place)) link.leads (walks.rise a link.place link.inside link.span (omega arith)) in
          let r : links_of n rising a b x ⊎ HasShorter g (slice_index order a) (slice_index order b) x = inr (record { long = slice_index best_up link.place; walk = walk; less = omega arith }) in r)
          (λ (same : slice_index up link.place ≤ slice_index best_up link.place).
          let kept : links_of n rising a (slice_index head link.place) (slice_index up link.place) = kept_up.all a link.place link.inside link.span (omega arith) (omega arith) in
          let r : links_of n rising a b x ⊎ HasShorter g (slice_index order a) (slice_index order b) x =
          inl (subst (λ (z : ℕ). links_of n rising a z x) link.leads (subst (λ (y : ℕ). links_of n rising a (slice_index head link.place) y) link.long kept)) in r)
          (cases_lt (slice_index best_up link.place) (slice_index up link.place)));
      down = (λ a b x link.
          let long = link.long in
          let real = link.real in
          let less = fall.falls link.place in
          ⊎_elim
          (λ (short : slice_index best_down link.place < slice_index down link.place).
          let walk : HasWalk g (slice_index order b) (slice_index order a) (slice_index best_down link.place) =
          subst (λ (z : ℕ). HasWalk g (slice_index order z) (slice_index order a) (slice_index best_down link.place)) link.leads (walks.fall a link.place link.inside link.span (omega arith)) in
          let r : links_of n falling a b x ⊎ HasShorter g (slice_index order b) (slice_index order a) x = inr (record { long = slice_index best_down link.place; walk = walk; less = omega arith }) in r)
          (λ (same : slice_index down link.place ≤ slice_index best_down link.place).
          let kept : links_of n falling a (slice_index head link.place) (slice_index down link.place) = kept_down.all a link.place link.inside link.span (omega arith) (omega arith) in
          let r : links_of n falling a b x ⊎ HasShorter g (slice_index order b) (slice_index order a) x =
          inl (subst (λ (z : ℕ). links_of n falling a z x) link.leads (subst (λ (y : ℕ). links_of n falling a (slice_index head link.place) y) link.long kept)) in r)
          (cases_lt (slice_index best_down link.place) (slice_index down link.place)));
    }
