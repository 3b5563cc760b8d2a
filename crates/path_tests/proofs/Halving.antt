-- Rectangles of pairs round a via: what one question clears, and what two halves find.
use Rattle.std.proofs.Common.{◌≡◌, ℕ, Bool, true, false, IsSomeAnd, ◌+◌, ◌-◌, ◌*◌, ◌<◌, ◌≤◌, ◌++◌, length, get_or, Option, Some, None, refl, sym, ap, ◌∙◌, subst, arith, inl, inr, ⊎_elim}
use Rattle.std.proofs.lemmas.Bool.{cases_lt}
use Rattle.std.proofs.Math.Nat.{mul-le-mul_left}
use Rattle.road_model.specs.declared.answer.Pair.{Pair}
use Rattle.road_model.specs.declared.trail.Trail.{Trail}
use Rattle.road_model.specs.Graph.{Graph, IsVertex}
use Rattle.road_model.specs.Dist.{NoWalk}
use Rattle.road_model.specs.Fraction.{Fraction, Stretches, Exceeds}
use Rattle.road_model.specs.Places.{vertex_at, between, IsDistAt}
use Rattle.road_model.specs.Tests.{FailsStretch, NoneFails}
use Rattle.road_model.specs.ViaWalk.{AsksWithin, FindsLeast}
use Rattle.road_model.specs.Walk.{IsWalk, walk_length}
use Rattle.road_model.proofs.Walks.{IsWalk-append, walk_length-append}
use Rattle.road_model.proofs.Dists.{IsDist-itself}
use Rattle.path_tests.specs.JoinedTrail.{IsJoinedTrail}
use Rattle.path_tests.specs.Passing.{TellsPassing}
use Rattle.path_tests.specs.declared.rectangles.Rectangle.{Rectangle}
use Rattle.path_tests.specs.declared.rectangles.Halves.{Halves}
use Rattle.path_tests.specs.Rectangle.{IsRectangle, IsPairOf, pairs_in, spread_of, IsHalf, AreHalves, NoneFailsIn, IsLeastIn, FindsIn, TellsPassingIn, IsBefore, IsLesserOf, IsWholeRectangle}
use Rattle.path_tests.proofs.Searches.{AsksWithin-both, AsksWithin-up}
use Rattle.path_tests.proofs.Stretches.{stretch_in_back, stretch_passes}

-- the excess over the distance never falls when a subpath round the via grows
pub excess_rises : (o : Graph) (t : Trail) (via x i j y a b : ℕ) → IsJoinedTrail o t via → x ≤ i → i ≤ via → via ≤ j → j ≤ y → y < length t.vertices → IsDistAt o t x y a → IsDistAt o t i j b → between t i j + a ≤ between t x y + b
excess_rises o t via x i j y a b h xi iv vj jy inside outer inner =
    let prefix = (h.prefix x i xi iv).0 in
    let middle = inner.0 in
    let back = (h.back j y vj jy inside).0 in
    let rest : IsWalk o (vertex_at t i) (middle.path ++ back.path) (vertex_at t y) = IsWalk-append o middle.path back.path (vertex_at t i) (vertex_at t j) (vertex_at t y) middle.walk back.walk in
    let whole : IsWalk o (vertex_at t x) (prefix.path ++ (middle.path ++ back.path)) (vertex_at t y) = IsWalk-append o prefix.path (middle.path ++ back.path) (vertex_at t x) (vertex_at t i) (vertex_at t y) prefix.walk rest in
    let low : a ≤ walk_length o (prefix.path ++ (middle.path ++ back.path)) = outer.1 (prefix.path ++ (middle.path ++ back.path)) whole in
    let one : get_or t.sums x 0 ≤ get_or t.sums i 0 = h.rising x i xi (omega arith) in
    let two : get_or t.sums i 0 ≤ get_or t.sums j 0 = h.rising i j (omega arith) (omega arith) in
    let three : get_or t.sums j 0 ≤ get_or t.sums y 0 = h.rising j y jy inside in
    omega (arith, walk_length-append o prefix.path (middle.path ++ back.path), walk_length-append o middle.path back.path, prefix.long, middle.long, back.long)

-- and a distance is no longer than the subpath
pub no_longer : (o : Graph) (t : Trail) (via x y a : ℕ) → IsJoinedTrail o t via → x ≤ via → via ≤ y → y < length t.vertices → IsDistAt o t x y a → a ≤ between t x y
no_longer o t via x y a h before beyond inside outer =
    let at : between t via via + a ≤ between t x y + 0 = excess_rises o t via x via via y a 0 h before (omega arith) (omega arith) beyond inside outer (IsDist-itself o (vertex_at t via)) in
    omega arith

-- an excess that is small enough for one length is for each greater one
clears_more : (num den excess rest more : ℕ) → (rest + excess) * den ≤ (den + num) * rest → (rest + excess + more) * den ≤ (den + num) * (rest + more)
clears_more num den excess rest more h = omega (arith, h)

clears_longer : (e : Fraction) (inner excess long d : ℕ) → excess ≤ inner → inner ≤ long → long ≤ d + excess → Stretches e inner (inner - excess) → Stretches e long d
clears_longer e inner excess long d small low near h =
    let rest : ℕ = inner - excess in
    let more : ℕ = long - inner in
    let is : rest + excess ≡ inner = omega arith in
    let all : rest + excess + more ≡ long = omega arith in
    let base : (rest + excess) * e.den ≤ (e.den + e.num) * rest = subst (λ (n : ℕ). n * e.den ≤ (e.den + e.num) * rest) (sym is) h in
    let longer : (rest + excess + more) * e.den ≤ (e.den + e.num) * (rest + more) = clears_more e.num e.den excess rest more base in
    let same : long * e.den ≤ (e.den + e.num) * (rest + more) = subst (λ (n : ℕ). n * e.den ≤ (e.den + e.num) * (rest + more)) all longer in
    let up : (e.den + e.num) * (rest + more) ≤ (e.den + e.num) * d = mul-le-mul_left (e.den + e.num) (omega arith) in
    omega (arith, same, up)

-- so one question clears a rectangle
pub rectangle_clears : (o : Graph) (e : Fraction) (t : Trail) (via : ℕ) (r : Rectangle) (distance : ℕ) → IsJoinedTrail o t via → IsRectangle t via r → IsDistAt o t r.low r.to distance → between t r.low r.to - distance ≤ between t (r.high - 1) r.from → Stretches e (between t (r.high - 1) r.from) (between t (r.high - 1) r.from - (between t r.low r.to - distance)) → NoneFailsIn (FailsStretch o e t) r
rectangle_clears o e t via r distance h area outer low within i j d place fails =
    let rows = area.rows in
    let before = area.before in
    let beyond = area.beyond in
    let columns = area.columns in
    let inside = area.inside in
    let i_low = place.low in
    let i_high = place.high in
    let j_low = place.from in
    let j_high = place.to in
    let short : distance ≤ between t r.low r.to = no_longer o t via r.low r.to distance h (omega arith) (omega arith) inside outer in
    let rises : between t i j + distance ≤ between t r.low r.to + d = excess_rises o t via r.low i j r.to distance d h i_low (omega arith) (omega arith) j_high inside outer fails.dist in
    let first : get_or t.sums i 0 ≤ get_or t.sums (r.high - 1) 0 = h.rising i (r.high - 1) (omega arith) (omega arith) in
    let last : get_or t.sums r.from 0 ≤ get_or t.sums j 0 = h.rising r.from j j_low (omega arith) in
    let longer : between t (r.high - 1) r.from ≤ between t i j = omega arith in
    let passes : Stretches e (between t i j) d = clears_longer e (between t (r.high - 1) r.from) (between t r.low r.to - distance) (between t i j) d low longer (omega arith) within in
    let above = fails.above in
    absurd (omega arith)

-- a rectangle of one pair
pub pair_fails : (o : Graph) (e : Fraction) (t : Trail) (via : ℕ) (r : Rectangle) (distance : ℕ) → IsRectangle t via r → IsDistAt o t r.low r.to distance → Exceeds e (between t r.low r.to) distance → FailsStretch o e t r.low r.to distance
pair_fails o e t via r distance area outer above =
    record {
      rise = omega (arith, area.rows, area.before, area.beyond, area.columns);
      inside = area.inside;
      dist = outer;
      above = above;
    }

pub IsLeastIn-pair : (F : ℕ → ℕ → ℕ → Type 0) (r : Rectangle) (distance : ℕ) → spread_of r ≡ 1 → r.low < r.high → F r.low r.to distance → IsLeastIn F r (record { first = r.low; last = r.to; distance = distance })
IsLeastIn-pair F r distance one rows fails =
    record {
      fails = fails;
      first = (λ i j d place f. place.low);
      last = (λ j d place f. omega (arith, place.from, one, rows));
    }

pub IsRectangle-half : (t : Trail) (via : ℕ) (r h : Rectangle) → IsRectangle t via r → IsHalf r h → IsRectangle t via h
IsRectangle-half t via r h area half =
    record {
      rows = half.rows;
      before = omega (arith, half.high, area.before);
      beyond = omega (arith, half.from, area.beyond);
      columns = half.columns;
      inside = omega (arith, half.to, area.inside);
    }

-- the halves of the first places, and of the last ones
split_product : (r s c : ℕ) → r * c + s * c ≡ (r + s) * c
split_product r s c = omega arith

turned_product : (c r s : ℕ) → c * r + c * s ≡ c * (r + s)
turned_product c r s = omega arith

pub AreHalves-rows : (r : Rectangle) (m : ℕ) → r.low < m → m < r.high → r.from ≤ r.to → AreHalves r (record { outer = record { low = r.low; high = m; from = r.from; to = r.to }; inner = record { low = m; high = r.high; from = r.from; to = r.to } })
AreHalves-rows r m low high columns =
    let all : (m - r.low) + (r.high - m) ≡ r.high - r.low = omega arith in
    record {
      outer = record { rows = low; columns = columns; low = omega arith; high = omega arith; from = omega arith; to = omega arith; less = omega arith };
      inner = record { rows = high; columns = columns; low = omega arith; high = omega arith; from = omega arith; to = omega arith; less = omega arith };
      low = refl;
      to = refl;
      covers = (λ i j place. ⊎_elim
          (λ (lt : i < m). inl (record { low = place.low; high = lt; from = place.from; to = place.to }))
          (λ (le : m ≤ i). inr (record { low = le; high = place.high; from = place.from; to = place.to }))
          (cases_lt i m));
      pairs = split_product (m - r.low) (r.high - m) (r.to + 1 - r.from) ∙ ap (λ (n : ℕ). n * (r.to + 1 - r.from)) all;
    }

pub AreHalves-columns : (r : Rectangle) (m : ℕ) → r.from ≤ m → m < r.to → r.low < r.high → AreHalves r (record { outer = record { low = r.low; high = r.high; from = m + 1; to = r.to }; inner = record { low = r.low; high = r.high; from = r.from; to = m } })
AreHalves-columns r m from to rows =
    let all : (r.to + 1 - (m + 1)) + (m + 1 - r.from) ≡ r.to + 1 - r.from = omega arith in
    record {
      outer = record { rows = rows; columns = omega arith; low = omega arith; high = omega arith; from = omega arith; to = omega arith; less = omega arith };
      inner = record { rows = rows; columns = from; low = omega arith; high = omega arith; from = omega arith; to = omega arith; less = omega arith };
      low = refl;
      to = refl;
      covers = (λ i j place. ⊎_elim
          (λ (lt : m < j). inl (record { low = place.low; high = place.high; from = omega arith; to = place.to }))
          (λ (le : j ≤ m). inr (record { low = place.low; high = place.high; from = place.from; to = le }))
          (cases_lt m j));
      pairs = turned_product (r.high - r.low) (r.to + 1 - (m + 1)) (m + 1 - r.from) ∙ ap (λ (n : ℕ). (r.high - r.low) * n) all;
    }

-- what the halves tell
pub none_of_halves : (F : ℕ → ℕ → ℕ → Type 0) (r : Rectangle) (h : Halves) → AreHalves r h → NoneFailsIn F h.outer → NoneFailsIn F h.inner → NoneFailsIn F r
none_of_halves F r h halves outer inner i j d place fails =
    ⊎_elim (λ (o : IsPairOf h.outer i j). outer i j d o fails)
    (λ (n : IsPairOf h.inner i j). inner i j d n fails)
    (halves.covers i j place)

-- nothing of the inner half is before a pair of the outer one that begins before it
pub least_of_outer : (F : ℕ → ℕ → ℕ → Type 0) (r : Rectangle) (h : Halves) (p : Pair) → AreHalves r h → IsLeastIn F h.outer p → p.first < h.inner.low → IsLeastIn F r p
least_of_outer F r h p halves least before =
    record {
      fails = least.fails;
      first = (λ i j d place f. ⊎_elim (λ (o : IsPairOf h.outer i j). least.first i j d o f)
          (λ (n : IsPairOf h.inner i j). omega (arith, n.low, before))
          (halves.covers i j place));
      last = (λ j d place f. ⊎_elim (λ (o : IsPairOf h.outer p.first j). least.last j d o f)
          (λ (n : IsPairOf h.inner p.first j). absurd (omega (arith, n.low, before)))
          (halves.covers p.first j place));
    }

least_outer_alone : (F : ℕ → ℕ → ℕ → Type 0) (r : Rectangle) (h : Halves) (p : Pair) → AreHalves r h → IsLeastIn F h.outer p → NoneFailsIn F h.inner → IsLeastIn F r p
least_outer_alone F r h p halves least none =
    record {
      fails = least.fails;
      first = (λ i j d place f. ⊎_elim (λ (o : IsPairOf h.outer i j). least.first i j d o f)
          (λ (n : IsPairOf h.inner i j). absurd (none i j d n f))
          (halves.covers i j place));
      last = (λ j d place f. ⊎_elim (λ (o : IsPairOf h.outer p.first j). least.last j d o f)
          (λ (n : IsPairOf h.inner p.first j). absurd (none p.first j d n f))
          (halves.covers p.first j place));
    }

least_inner_alone : (F : ℕ → ℕ → ℕ → Type 0) (r : Rectangle) (h : Halves) (p : Pair) → AreHalves r h → NoneFailsIn F h.outer → IsLeastIn F h.inner p → IsLeastIn F r p
least_inner_alone F r h p halves none least =
    record {
      fails = least.fails;
      first = (λ i j d place f. ⊎_elim (λ (o : IsPairOf h.outer i j). absurd (none i j d o f))
          (λ (n : IsPairOf h.inner i j). least.first i j d n f)
          (halves.covers i j place));
      last = (λ j d place f. ⊎_elim (λ (o : IsPairOf h.outer p.first j). absurd (none p.first j d o f))
          (λ (n : IsPairOf h.inner p.first j). least.last j d n f)
          (halves.covers p.first j place));
    }

-- the first place of the lesser pair
first_low : (p q : Pair) → IsBefore p q → p.first ≤ q.first
first_low p q (inl lt) = omega arith
first_low p q (inr both) = omega (arith, both.0)

last_low : (p q : Pair) → IsBefore p q → q.first ≤ p.first → p.last ≤ q.last
last_low p q (inl lt) le = absurd (omega arith)
last_low p q (inr both) le = both.1

least_outer : (F : ℕ → ℕ → ℕ → Type 0) (r : Rectangle) (h : Halves) (a b : Pair) → AreHalves r h → IsLeastIn F h.outer a → IsLeastIn F h.inner b → IsBefore a b → IsLeastIn F r a
least_outer F r h a b halves outer inner before =
    record {
      fails = outer.fails;
      first = (λ i j d place f. ⊎_elim (λ (o : IsPairOf h.outer i j). outer.first i j d o f)
          (λ (n : IsPairOf h.inner i j). let low = inner.first i j d n f in omega (arith, low, first_low a b before))
          (halves.covers i j place));
      last = (λ j d place f. ⊎_elim (λ (o : IsPairOf h.outer a.first j). outer.last j d o f)
          (λ (n : IsPairOf h.inner a.first j).
          let low : b.first ≤ a.first = inner.first a.first j d n f in
          let same : a.first ≡ b.first = omega (arith, low, first_low a b before) in
          let here : IsPairOf h.inner b.first j = subst (λ (x : ℕ). IsPairOf h.inner x j) same n in
          let least : b.last ≤ j = inner.last j d here (subst (λ (x : ℕ). F x j d) same f) in
          omega (arith, least, last_low a b before low))
          (halves.covers a.first j place));
    }

least_inner : (F : ℕ → ℕ → ℕ → Type 0) (r : Rectangle) (h : Halves) (a b : Pair) → AreHalves r h → IsLeastIn F h.outer a → IsLeastIn F h.inner b → IsBefore b a → IsLeastIn F r b
least_inner F r h a b halves outer inner before =
    record {
      fails = inner.fails;
      first = (λ i j d place f. ⊎_elim (λ (o : IsPairOf h.outer i j). let low = outer.first i j d o f in omega (arith, low, first_low b a before))
          (λ (n : IsPairOf h.inner i j). inner.first i j d n f)
          (halves.covers i j place));
      last = (λ j d place f. ⊎_elim (λ (o : IsPairOf h.outer b.first j).
          let low : a.first ≤ b.first = outer.first b.first j d o f in
          let same : b.first ≡ a.first = omega (arith, low, first_low b a before) in
          let here : IsPairOf h.outer a.first j = subst (λ (x : ℕ). IsPairOf h.outer x j) same o in
          let least : a.last ≤ j = outer.last j d here (subst (λ (x : ℕ). F x j d) same f) in
          omega (arith, least, last_low b a before low))
          (λ (n : IsPairOf h.inner b.first j). inner.last j d n f)
          (halves.covers b.first j place));
    }

pub find_in_halves : (F : ℕ → ℕ → ℕ → Type 0) (r : Rectangle) (h : Halves) (a b c : Option Pair) → AreHalves r h → FindsIn F h.outer a → FindsIn F h.inner b → IsLesserOf a b c → FindsIn F r c
find_in_halves F r h None None c halves outer inner is = subst (λ (x : Option Pair). FindsIn F r x) (sym is) (none_of_halves F r h halves outer inner)
find_in_halves F r h None (Some b) c halves outer inner is = subst (λ (x : Option Pair). FindsIn F r x) (sym is) (least_inner_alone F r h b halves outer inner)
find_in_halves F r h (Some a) None c halves outer inner is = subst (λ (x : Option Pair). FindsIn F r x) (sym is) (least_outer_alone F r h a halves outer inner)
find_in_halves F r h (Some a) (Some b) c halves outer inner (inl is) = subst (λ (x : Option Pair). FindsIn F r x) (sym is.0) (least_outer F r h a b halves outer inner is.1)
find_in_halves F r h (Some a) (Some b) c halves outer inner (inr is) = subst (λ (x : Option Pair). FindsIn F r x) (sym is.0) (least_inner F r h a b halves outer inner is.1)

-- questions: each half has a pair at least, and one question is asked between them
some_pairs : (a b : ℕ) → 1 ≤ a → 1 ≤ b → 1 ≤ a * b
some_pairs a b ha hb =
    let low : a * 1 ≤ a * b = mul-le-mul_left a hb in
    omega (arith, low)

pub pairs_positive : (r : Rectangle) → r.low < r.high → r.from ≤ r.to → 1 ≤ pairs_in r
pairs_positive r rows columns = some_pairs (r.high - r.low) (r.to + 1 - r.from) (omega arith) (omega arith)

pub asks_of_outer : (r : Rectangle) (h : Halves) (a b : ℕ) → AreHalves r h → AsksWithin a b (pairs_in h.outer - 1) → AsksWithin a b (pairs_in r - 1)
asks_of_outer r h a b halves asks =
    AsksWithin-up a b (pairs_in h.outer - 1) (pairs_in r - 1) (omega (arith, halves.pairs)) asks

pub asks_of_question : (r : Rectangle) (h : Halves) (a b c : ℕ) → AreHalves r h → AsksWithin a b (pairs_in h.outer - 1) → AsksWithin b c 1 → AsksWithin a c (pairs_in r - 1)
asks_of_question r h a b c halves first one =
    let some = pairs_positive h.outer halves.outer.rows halves.outer.columns in
    let others = pairs_positive h.inner halves.inner.rows halves.inner.columns in
    AsksWithin-up a c (pairs_in h.outer - 1 + 1) (pairs_in r - 1) (omega (arith, halves.pairs, some, others)) (AsksWithin-both a b c (pairs_in h.outer - 1) 1 first one)

pub asks_of_halves : (r : Rectangle) (h : Halves) (a b c d : ℕ) → AreHalves r h → AsksWithin a b (pairs_in h.outer - 1) → AsksWithin b c 1 → AsksWithin c d (pairs_in h.inner - 1) → AsksWithin a d (pairs_in r - 1)
asks_of_halves r h a b c d halves first one rest =
    let some = pairs_positive h.outer halves.outer.rows halves.outer.columns in
    let others = pairs_positive h.inner halves.inner.rows halves.inner.columns in
    AsksWithin-up a d (pairs_in h.outer - 1 + 1 + (pairs_in h.inner - 1)) (pairs_in r - 1) (omega (arith, halves.pairs, some, others))
    (AsksWithin-both a c d (pairs_in h.outer - 1 + 1) (pairs_in h.inner - 1) (AsksWithin-both a b c (pairs_in h.outer - 1) 1 first one) rest)

-- the rectangle of all pairs round the via
pub whole_in : (t : Trail) (via : ℕ) (o : Option Rectangle) (r : Rectangle) → IsWholeRectangle t via o → o ≡ Some r → IsWholeRectangle t via (Some r)
whole_in t via o r h is = subst (λ (x : Option Rectangle). IsWholeRectangle t via x) is h

pub whole_none : (t : Trail) (via : ℕ) (o : Option Rectangle) → IsWholeRectangle t via o → o ≡ None → IsWholeRectangle t via None
whole_none t via o h is = subst (λ (x : Option Rectangle). IsWholeRectangle t via x) is h

pub IsRectangle-whole : (t : Trail) (via : ℕ) (r : Rectangle) → IsWholeRectangle t via (Some r) → IsRectangle t via r
IsRectangle-whole t via r h =
    let some = h.1 in
    let room = h.2 in
    subst (λ (x : Rectangle). IsRectangle t via x) (sym h.0)
    (record { rows = some; before = omega arith; beyond = omega arith; columns = omega arith; inside = omega arith })

IsPairOf-whole : (t : Trail) (via i j : ℕ) (r : Rectangle) → IsWholeRectangle t via (Some r) → i < via → via < j → j < length t.vertices → IsPairOf r i j
IsPairOf-whole t via i j r h before beyond inside =
    subst (λ (x : Rectangle). IsPairOf x i j) (sym h.0)
    (record { low = omega arith; high = before; from = omega arith; to = omega arith })

stretch_in_prefix : (o : Graph) (e : Fraction) (t : Trail) (via i j d : ℕ) → IsJoinedTrail o t via → j ≤ via → FailsStretch o e t i j d → ⊥
stretch_in_prefix o e t via i j d h le fails =
    stretch_passes o e t i j (between t i j) (h.prefix i j (omega (arith, fails.rise)) le) (omega arith) d fails

-- a pair that fails is round the via
around : (o : Graph) (e : Fraction) (t : Trail) (via i j d : ℕ) (r : Rectangle) → IsJoinedTrail o t via → IsWholeRectangle t via (Some r) → FailsStretch o e t i j d → IsPairOf r i j
around o e t via i j d r h whole fails =
    ⊎_elim (λ (before : i < via).
    ⊎_elim (λ (beyond : via < j). IsPairOf-whole t via i j r whole before beyond fails.inside)
    (λ (le : j ≤ via). absurd (stretch_in_prefix o e t via i j d h le fails))
    (cases_lt via j))
    (λ (le : via ≤ i). absurd (stretch_in_back o e t via i j d h le fails))
    (cases_lt i via)

pub none_of_whole : (o : Graph) (e : Fraction) (t : Trail) (via : ℕ) (r : Rectangle) → IsJoinedTrail o t via → IsWholeRectangle t via (Some r) → NoneFailsIn (FailsStretch o e t) r → NoneFails (FailsStretch o e t)
none_of_whole o e t via r h whole none i j d fails = none i j d (around o e t via i j d r h whole fails) fails

pub none_without : (o : Graph) (e : Fraction) (t : Trail) (via : ℕ) → IsJoinedTrail o t via → IsWholeRectangle t via None → NoneFails (FailsStretch o e t)
none_without o e t via h (inl first) i j d fails = stretch_in_back o e t via i j d h (omega arith) fails
none_without o e t via h (inr last) i j d fails = stretch_in_prefix o e t via i j d h (omega (arith, fails.inside)) fails

pub finds_in_whole : (o : Graph) (e : Fraction) (t : Trail) (via : ℕ) (r : Rectangle) (found : Option Pair) → IsJoinedTrail o t via → IsWholeRectangle t via (Some r) → FindsIn (FailsStretch o e t) r found → FindsLeast (FailsStretch o e t) found
finds_in_whole o e t via r None h whole none = none_of_whole o e t via r h whole none
finds_in_whole o e t via r (Some p) h whole least =
    record {
      fails = least.fails;
      first = (λ a b c f. least.first a b c (around o e t via a b c r h whole f) f);
      last = (λ b c f. least.last b c (around o e t via p.first b c r h whole f) f);
    }

pub tells_of_whole : (o : Graph) (e : Fraction) (t : Trail) (via : ℕ) (r : Rectangle) (passes : Bool) → IsJoinedTrail o t via → IsWholeRectangle t via (Some r) → TellsPassingIn (FailsStretch o e t) r passes → TellsPassing (FailsStretch o e t) passes
tells_of_whole o e t via r true h whole none = none_of_whole o e t via r h whole none
tells_of_whole o e t via r false h whole failure = failure

pub asks_of_whole : (t : Trail) (via a b c : ℕ) (r : Rectangle) → IsWholeRectangle t via (Some r) → AsksWithin a b 1 → AsksWithin b c (pairs_in r - 1) → AsksWithin a c (via * (length t.vertices - 1 - via))
asks_of_whole t via a b c r whole one rest =
    let area = IsRectangle-whole t via r whole in
    let some = pairs_positive r area.rows area.columns in
    let wide : r.high - r.low ≡ via - 0 = ap (λ (x : Rectangle). x.high - x.low) whole.0 in
    let rows : r.high - r.low ≡ via = omega arith in
    let room = whole.2 in
    let last : r.to + 1 - r.from ≡ length t.vertices - 1 + 1 - (via + 1) = ap (λ (x : Rectangle). x.to + 1 - x.from) whole.0 in
    let columns : r.to + 1 - r.from ≡ length t.vertices - 1 - via = omega arith in
    let all : pairs_in r ≡ via * (length t.vertices - 1 - via) = ap (λ (n : ℕ). n * (r.to + 1 - r.from)) rows ∙ ap (λ (n : ℕ). via * n) columns in
    AsksWithin-up a c (1 + (pairs_in r - 1)) (via * (length t.vertices - 1 - via)) (omega (arith, some, all)) (AsksWithin-both a b c 1 (pairs_in r - 1) one rest)

pub asks_once : (t : Trail) (via a b : ℕ) (r : Rectangle) → IsWholeRectangle t via (Some r) → AsksWithin a b 1 → AsksWithin a b (via * (length t.vertices - 1 - via))
asks_once t via a b r whole one =
    let room = whole.2 in
    let some = some_pairs via (length t.vertices - 1 - via) whole.1 (omega arith) in
    AsksWithin-up a b 1 (via * (length t.vertices - 1 - via)) some one

-- what the code reads of a rectangle, and finds in its halves
pub rectangle_told : (o : Graph) (e : Fraction) (t : Trail) (via : ℕ) (r : Rectangle) (distance outer inner : ℕ) → IsJoinedTrail o t via → IsRectangle t via r → IsDistAt o t r.low r.to distance → outer ≡ between t r.low r.to → inner ≡ between t (r.high - 1) r.from → outer - distance ≤ inner → Stretches e inner (inner - (outer - distance)) → NoneFailsIn (FailsStretch o e t) r
rectangle_told o e t via r distance outer inner h area dist outer_is inner_is low within =
    let one : Stretches e (between t (r.high - 1) r.from) (between t (r.high - 1) r.from - (outer - distance)) = subst (λ (n : ℕ). Stretches e n (n - (outer - distance))) inner_is within in
    let two : Stretches e (between t (r.high - 1) r.from) (between t (r.high - 1) r.from - (between t r.low r.to - distance)) = subst (λ (n : ℕ). Stretches e (between t (r.high - 1) r.from) (between t (r.high - 1) r.from - (n - distance))) outer_is one in
    rectangle_clears o e t via r distance h area dist (omega arith) two

pub outer_longer : (o : Graph) (t : Trail) (via : ℕ) (r : Rectangle) (distance outer : ℕ) → IsJoinedTrail o t via → IsRectangle t via r → IsDistAt o t r.low r.to distance → outer ≡ between t r.low r.to → distance ≤ outer
outer_longer o t via r distance outer h area dist is =
    let rows = area.rows in
    let before = area.before in
    let beyond = area.beyond in
    let columns = area.columns in
    let low : distance ≤ between t r.low r.to = no_longer o t via r.low r.to distance h (omega arith) (omega arith) area.inside dist in
    omega arith

pub find_before : (F : ℕ → ℕ → ℕ → Type 0) (r : Rectangle) (h : Halves) (found : Option Pair) → AreHalves r h → FindsIn F h.outer found → IsSomeAnd found (λ p. p.first < h.inner.low) → FindsIn F r found
find_before F r h None halves outer before = absurd before
find_before F r h (Some p) halves outer before = least_of_outer F r h p halves outer before

pub tell_in_halves : (F : ℕ → ℕ → ℕ → Type 0) (r : Rectangle) (h : Halves) (first rest : Bool) → AreHalves r h → TellsPassingIn F h.outer first → first ≡ true → TellsPassingIn F h.inner rest → TellsPassingIn F r rest
tell_in_halves F r h first true halves outer passed inner =
    none_of_halves F r h halves (subst (λ (b : Bool). TellsPassingIn F h.outer b) passed outer) inner
tell_in_halves F r h first false halves outer passed inner = inner

-- the question that is asked for the inner half
pub record IsAskable (o : Graph) (t : Trail) (h : Rectangle) : Type 0 where
  pub start : h.low < length t.vertices
  pub inside : h.to < length t.vertices
  pub from : IsVertex o.vertices (vertex_at t h.low)
  pub to : IsVertex o.vertices (vertex_at t h.to)
  pub reached : NoWalk o (vertex_at t h.low) (vertex_at t h.to) → ⊥

pub askable : (old now : Graph) (t : Trail) (via : ℕ) (h : Rectangle) → now ≡ old → IsJoinedTrail old t via → IsRectangle t via h → IsAskable now t h
askable old now t via h same joined area =
    let start : h.low < length t.vertices = omega (arith, area.rows, area.before, joined.via_inside) in
    let rise : h.low ≤ h.to = omega (arith, area.rows, area.before, area.beyond, area.columns) in
    subst (λ (g : Graph). IsAskable g t h) (sym same)
    (record {
      start = start;
      inside = area.inside;
      from = joined.vertices h.low start;
      to = joined.vertices h.to area.inside;
      reached = joined.reached h.low h.to rise area.inside;
    })
