-- Lowering links to arcs.
use Rattle.std.proofs.Common.{◌≡◌, ◌+◌, ◌<◌, ◌≤◌, ◌⊎◌, ℕ, suc, List, [], ◌∷◌, Some, length, slice_index, get_or, take, refl, sym, ap, ◌∙◌, subst, arith, inl, inr, ⊎_elim}
use Rattle.std.specs.List.{All}
use Rattle.std.proofs.lemmas.List.Elements.{All-more, All-weaker}
use Rattle.std.proofs.lemmas.Option.{slice_get-get_or}
use Rattle.road_model.specs.declared.rows.ArcRow.{ArcRow}
use Rattle.road_model.specs.Graph.{Graph, rows_of, arc_at, row_length}
use Rattle.road_model.specs.Dist.{HasWalk}
use Rattle.hierarchy_build.specs.Hills.{Within}
use Rattle.hierarchy_build.specs.Runs.{InSpan, IsUp, IsShape, HasPlace}
use Rattle.hierarchy_build.specs.Lengths.{no_link, LinkAt, CanPush, AreWalks, Falls, Keeps, IsWithin, AreSpelled, IsCovered, KeepsArc, KeepsArcs}
use Rattle.hierarchy_build.proofs.Runs.{place_inside}
use Rattle.hierarchy_build.proofs.Pushes.{lowered, lowered_at, lowered_falls, rise_lowered_to, fall_lowered_to, Falls-itself, Falls-joined}

pub place_of_up : (n : ℕ) (first head : List ℕ) (v u : ℕ) → IsShape n first head → v < n → IsUp first head v u → HasPlace head (slice_index first v) u
place_of_up n first head v u s is_v h =
    record { place = h.place; late = h.span.low; inside = place_inside n first head v h.place s is_v h.span; is = h.is }

pub up_found : (first head : List ℕ) (v u k : ℕ) → IsUp first head v u → slice_index first v ≤ k → ((c : ℕ) → slice_index first v ≤ c → slice_index head c ≡ u → k ≤ c) → InSpan first v k
up_found first head v u k h late earliest =
    let low : k ≤ h.place = earliest h.place h.span.low h.is in
    let high = h.span.high in
    record { low = late; high = omega arith }

-- an arc is a walk
pub HasWalk-arc : (g : Graph) (a : ℕ) (r : ArcRow) (u v : ℕ) → arc_at g a ≡ Some r → r.tail ≡ u → r.head ≡ v → HasWalk g u v r.length
HasWalk-arc g a r u v is tail head =
    record { path = a ∷ []; walk = (r, is, tail, head); long = omega (arith, ap row_length is) }

pub Within-falls : (n : ℕ) (first head old new : List ℕ) (from a b k : ℕ) → Falls from old new → Within (LinkAt n first head old) a b k → Within (LinkAt n first head new) a b k
Within-falls n first head old new from a b k falls w =
    let p = w.link.place in
    let low : slice_index new w.link.place ≤ slice_index old w.link.place = falls.falls w.link.place in
    let real = w.link.real in
    let long = w.link.long in
    let within = w.within in
    record {
      long = slice_index new w.link.place;
      link = record { place = w.link.place; inside = w.link.inside; span = w.link.span; leads = w.link.leads; long = refl; real = omega arith };
      within = omega arith;
    }

pub IsCovered-falls : (n : ℕ) (rank first head up down up' down' : List ℕ) (from : ℕ) (r : ArcRow) → Falls from up up' → Falls from down down' → IsCovered n first head rank up down r → IsCovered n first head rank up' down' r
IsCovered-falls n rank first head up down up' down' from r rise fall covered = λ other.
    ⊎_elim
    (λ (h : Within (LinkAt n first head up) (slice_index rank r.tail) (slice_index rank r.head) r.length).
    let w : Within (LinkAt n first head up') (slice_index rank r.tail) (slice_index rank r.head) r.length = Within-falls n first head up up' from (slice_index rank r.tail) (slice_index rank r.head) r.length rise h in
    let c : Within (LinkAt n first head up') (slice_index rank r.tail) (slice_index rank r.head) r.length ⊎ Within (LinkAt n first head down') (slice_index rank r.head) (slice_index rank r.tail) r.length = inl w in c)
    (λ (h : Within (LinkAt n first head down) (slice_index rank r.head) (slice_index rank r.tail) r.length).
    let w : Within (LinkAt n first head down') (slice_index rank r.head) (slice_index rank r.tail) r.length = Within-falls n first head down down' from (slice_index rank r.head) (slice_index rank r.tail) r.length fall h in
    let c : Within (LinkAt n first head up') (slice_index rank r.tail) (slice_index rank r.head) r.length ⊎ Within (LinkAt n first head down') (slice_index rank r.head) (slice_index rank r.tail) r.length = inr w in c)
    (covered other)

pub Within-lowered : (n : ℕ) (first head xs : List ℕ) (a b k to : ℕ) → a < n → InSpan first a k → slice_index head k ≡ b → k < length xs → to < no_link → Within (LinkAt n first head (lowered xs k to)) a b to
Within-lowered n first head xs a b k to inside span leads there short =
    let low : slice_index (lowered xs k to) k ≤ to = lowered_at xs k to there in
    record {
      long = slice_index (lowered xs k to) k;
      link = record { place = k; inside = inside; span = span; leads = leads; long = refl; real = omega arith };
      within = low;
    }

pub KeepsArc-rise : (n : ℕ) (rank first head up down : List ℕ) (r : ArcRow) (k : ℕ) → CanPush n first head up down → IsWithin n rank r → InSpan first (slice_index rank r.tail) k → slice_index head k ≡ slice_index rank r.head → KeepsArc n rank first head r up down (lowered up k r.length) down
KeepsArc-rise n rank first head up down r k can within span leads =
    let there : k < length up = omega (arith, place_inside n first head (slice_index rank r.tail) k can.shape within.tail span, can.lengths.up_size) in
    record {
      rise = lowered_falls 0 up k r.length there (omega arith);
      fall = Falls-itself 0 down;
      walks = (λ g order a is spelled w.
          rise_lowered_to g order n first head up down (slice_index rank r.tail) k r.length can.shape within.tail span there
          (λ real. HasWalk-arc g a r (slice_index order (slice_index rank r.tail)) (slice_index order (slice_index head k)) is (sym spelled.tail) (sym (ap (λ (x : ℕ). slice_index order x) leads ∙ spelled.head)))
          w);
      covered = (λ other. inl (Within-lowered n first head up (slice_index rank r.tail) (slice_index rank r.head) k r.length within.tail span leads there within.short));
    }

pub KeepsArc-fall : (n : ℕ) (rank first head up down : List ℕ) (r : ArcRow) (k : ℕ) → CanPush n first head up down → IsWithin n rank r → InSpan first (slice_index rank r.head) k → slice_index head k ≡ slice_index rank r.tail → KeepsArc n rank first head r up down up (lowered down k r.length)
KeepsArc-fall n rank first head up down r k can within span leads =
    let there : k < length down = omega (arith, place_inside n first head (slice_index rank r.head) k can.shape within.head span, can.lengths.down_size) in
    record {
      rise = Falls-itself 0 up;
      fall = lowered_falls 0 down k r.length there (omega arith);
      walks = (λ g order a is spelled w.
          fall_lowered_to g order n first head up down (slice_index rank r.head) k r.length can.shape within.head span there
          (λ real. HasWalk-arc g a r (slice_index order (slice_index head k)) (slice_index order (slice_index rank r.head)) is (sym (ap (λ (x : ℕ). slice_index order x) leads ∙ spelled.tail)) (sym spelled.head))
          w);
      covered = (λ other. inr (Within-lowered n first head down (slice_index rank r.head) (slice_index rank r.tail) k r.length within.head span leads there within.short));
    }

pub KeepsArc-none : (n : ℕ) (rank first head up down : List ℕ) (r : ArcRow) → slice_index rank r.tail ≡ slice_index rank r.head → KeepsArc n rank first head r up down up down
KeepsArc-none n rank first head up down r same =
    record {
      rise = Falls-itself 0 up;
      fall = Falls-itself 0 down;
      walks = (λ g order a is spelled w. w);
      covered = (λ other. absurd (other same));
    }

-- the first i arcs
pub record ArcsSoFar (n : ℕ) (rank first head : List ℕ) (rows : List ArcRow) (i : ℕ) (up down up' down' : List ℕ) : Type 0 where
  pub rise : Falls 0 up up'
  pub fall : Falls 0 down down'
  pub walks : (g : Graph) (order : List ℕ) → rows_of g ≡ rows → All (AreSpelled order rank) rows → AreWalks g order n first head up down → AreWalks g order n first head up' down'
  pub covered : All (IsCovered n first head rank up' down') (take i rows)

pub ArcsSoFar-none : (n : ℕ) (rank first head : List ℕ) (rows : List ArcRow) (up down : List ℕ) → ArcsSoFar n rank first head rows 0 up down up down
ArcsSoFar-none n rank first head rows up down =
    record {
      rise = Falls-itself 0 up;
      fall = Falls-itself 0 down;
      walks = (λ g order is spelled w. w);
      covered = (λ k d inside. absurd (let low : k < 0 = inside in omega arith));
    }

pub ArcsSoFar-more : (n : ℕ) (rank first head : List ℕ) (rows : List ArcRow) (i : ℕ) (r : ArcRow) (up down a b a' b' : List ℕ) → i < length rows → r ≡ get_or rows i r → ArcsSoFar n rank first head rows i up down a b → KeepsArc n rank first head r a b a' b' → ArcsSoFar n rank first head rows (i + 1) up down a' b'
ArcsSoFar-more n rank first head rows i r up down a b a' b' inside read h k =
    record {
      rise = Falls-joined 0 up a a' h.rise k.rise;
      fall = Falls-joined 0 down b b' h.fall k.fall;
      walks = (λ g order is spelled w.
          let there : arc_at g (suc i) ≡ Some r = ap (λ (l : List ArcRow). arc_at (record { vertices = g.vertices; arcs = l }) (suc i)) is ∙ slice_get-get_or rows i r inside ∙ ap (λ (x : ArcRow). Some x) (sym read) in
          k.walks g order (suc i) there (subst (λ (x : ArcRow). AreSpelled order rank x) (sym read) (spelled i r inside)) (h.walks g order is spelled w));
      covered =
          All-more (λ x. IsCovered n first head rank a' b' x) rows i r inside
          (All-weaker (λ x. IsCovered n first head rank a b x) (λ x. IsCovered n first head rank a' b' x) (λ x c. IsCovered-falls n rank first head a b a' b' 0 x k.rise k.fall c) (take i rows) h.covered)
          (subst (λ (x : ArcRow). IsCovered n first head rank a' b' x) read k.covered);
    }

pub KeepsArcs-all : (n : ℕ) (rank first head : List ℕ) (rows : List ArcRow) (i : ℕ) (up down a b : List ℕ) → take i rows ≡ rows → ArcsSoFar n rank first head rows i up down a b → KeepsArcs n rank first head rows up down a b
KeepsArcs-all n rank first head rows i up down a b all h =
    record { rise = h.rise; fall = h.fall; walks = h.walks; covered = subst (λ (l : List ArcRow). All (IsCovered n first head rank a b) l) all h.covered }

-- and then the triangles
pub KeepsArcs-pushed : (n : ℕ) (rank first head : List ℕ) (rows : List ArcRow) (up down a b a' b' : List ℕ) → KeepsArcs n rank first head rows up down a b → Keeps n first head 0 a b a' b' → KeepsArcs n rank first head rows up down a' b'
KeepsArcs-pushed n rank first head rows up down a b a' b' h k =
    record {
      rise = Falls-joined 0 up a a' h.rise k.rise;
      fall = Falls-joined 0 down b b' h.fall k.fall;
      walks = (λ g order is spelled w. k.walks g order (h.walks g order is spelled w));
      covered = All-weaker (λ x. IsCovered n first head rank a b x) (λ x. IsCovered n first head rank a' b' x) (λ x c. IsCovered-falls n rank first head a b a' b' 0 x k.rise k.fall c) rows h.covered;
    }

pub CanPush-arcs : (n : ℕ) (first head a b a' b' : List ℕ) → CanPush n first head a b → Falls 0 a a' → Falls 0 b b' → CanPush n first head a' b'
CanPush-arcs n first head a b a' b' can rise fall =
    record {
      shape = can.shape;
      lengths = record {
        up_size = rise.size ∙ can.lengths.up_size;
        down_size = fall.size ∙ can.lengths.down_size;
        up_low = (λ k. omega (arith, rise.falls k, can.lengths.up_low k));
        down_low = (λ k. omega (arith, fall.falls k, can.lengths.down_low k));
      };
    }
