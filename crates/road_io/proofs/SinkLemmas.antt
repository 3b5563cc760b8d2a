-- How writes of pieces make the write of a whole.
use Rattle.std.proofs.Common.{◌≡◌, ℕ, List, [], ◌++◌, Option, sym, ap, ◌∙◌, append_assoc, append-nil}
use Rattle.road_io.specs.Told.{Told}
use Rattle.road_io.specs.Sink.{Writes, WritesPrefix}
use Rattle.road_io.specs.declared.writing.Put.{Put}
use Rattle.road_io.specs.declared.writing.Put.TheVariants.{Done, Failed}
use Rattle.road_io.proofs.ToldLemmas.{IfTold_then, IfTold_both, told_same}

-- nothing written is the write of nothing
pub Writes_nothing : (a : Option Told) → Writes [] a a Done
Writes_nothing a = told_same a _ (λ (x : List ℕ). sym (append-nil x))

-- a piece after another
written_both : (first second x y z : List ℕ) → y ≡ x ++ first → z ≡ y ++ second → z ≡ x ++ (first ++ second)
written_both first second x y z p q = q ∙ ap (λ w. w ++ second) p ∙ append_assoc x first second

-- a prefix of the second piece after the first
prefix_beyond : (first second x y z : List ℕ) → y ≡ x ++ first → WritesPrefix second y z → WritesPrefix (first ++ second) x z
prefix_beyond first second x y z p q = record {
  prefix = first ++ q.prefix;
  beyond = q.beyond;
  parts = ap (λ w. first ++ w) q.parts ∙ sym (append_assoc first q.prefix q.beyond);
  written = written_both first q.prefix x y z p q.written;
}

-- a prefix of the first piece is one of the two in one
prefix_of_first : (first second x y : List ℕ) → WritesPrefix first x y → WritesPrefix (first ++ second) x y
prefix_of_first first second x y p = record {
  prefix = p.prefix;
  beyond = p.beyond ++ second;
  parts = ap (λ w. w ++ second) p.parts ∙ append_assoc p.prefix p.beyond second;
  written = p.written;
}

-- a piece that was written, and then another, are the two in one
pub Writes_both : (first second : List ℕ) (a b c : Option Told) (answer : Put) → Writes first a b Done → Writes second b c answer → Writes (first ++ second) a c answer
Writes_both first second a b c Done h k =
    IfTold_both a b c _ _ _ (λ (x y z : List ℕ) (p : y ≡ x ++ first) (q : z ≡ y ++ second). written_both first second x y z p q) h k
Writes_both first second a b c Failed h k =
    IfTold_both a b c _ _ _ (λ (x y z : List ℕ) (p : y ≡ x ++ first) (q : WritesPrefix second y z). prefix_beyond first second x y z p q) h k

-- where the first of two pieces failed, the two in one failed
pub Writes_failed : (first second : List ℕ) (a b : Option Told) → Writes first a b Failed → Writes (first ++ second) a b Failed
Writes_failed first second a b h =
    IfTold_then a b _ _ (λ (x y : List ℕ) (p : WritesPrefix first x y). prefix_of_first first second x y p) h
