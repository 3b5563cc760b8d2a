-- How a line that is too long ends.
use Rattle.std.proofs.Common.{◌≡◌, ℕ, ◌+◌, ◌<◌, true, false, List, [], ◌∷◌, ◌++◌, length, drop, take, Option, sym, ap, ◌∙◌, arith, append_assoc}
use Rattle.std.proofs.lemmas.List.{append-nil, length-append, length-take-le}
use Rattle.road_text.specs.declared.line_reader.LineReader.{LineReader}
use Rattle.road_text.specs.declared.line_reader.Advance.TheVariants.{Long}
use Rattle.road_text.specs.declared.line_reader.Fill.TheVariants.{More, End}
use Rattle.road_text.specs.Lines.{HasNoFeed}
use Rattle.road_text.specs.Fields.{first_byte, or_first}
use Rattle.road_text.specs.Reader.{held, HasTaken, Steps}
use Rattle.road_text.specs.Filling.{IsFeedAt, GivesFill}
use Rattle.road_text.proofs.LineLemmas.{HasNoFeed-append, without_return-length, feed-parts}
use Rattle.road_text.proofs.FieldLemmas.{first_byte-append}

-- the part of the line that was passed over
pub record HasPassed (longest : ℕ) (raw : List ℕ) (first : Option ℕ) : Type 0 where
  pub no_feed : HasNoFeed raw
  pub first_is : first ≡ first_byte raw
  pub long : longest + 1 < length raw

-- it was the last line
pub Steps-long_last : (old mid new : LineReader) (raw : List ℕ) (first : Option ℕ) → HasPassed old.longest raw first → held new ≡ [] → HasTaken old new (length raw) → (x y z : List ℕ) → held old ++ x ≡ raw ++ y → GivesFill mid new y z End → Steps old new (held old ++ x) z (Long false first)
Steps-long_last old mid new raw first passed empty taken x y z text gives = (
  raw,
  record { no_feed = passed.no_feed; some = (let h = passed.long in omega arith); is = text ∙ ap (λ (r : List ℕ). raw ++ r) gives.0 ∙ append-nil raw; nothing = ap (λ (r : List ℕ). r ++ z) empty ∙ gives.1 },
  taken,
  record { long = (let h = passed.long in omega (arith, without_return-length raw)); first_is = passed.first_is },
)

-- one piece more of the line
pub HasPassed-more : (longest : ℕ) (raw piece : List ℕ) (first later : Option ℕ) → HasPassed longest raw first → HasNoFeed piece → later ≡ or_first first (first_byte piece) → HasPassed longest (raw ++ piece) later
HasPassed-more longest raw piece first later passed none e = record {
  no_feed = HasNoFeed-append raw piece passed.no_feed none;
  first_is = e ∙ ap (λ (o : Option ℕ). or_first o (first_byte piece)) passed.first_is ∙ sym (first_byte-append raw piece);
  long = (let h = passed.long in omega (arith, length-append raw piece));
}

-- the text goes on over a piece that was read where nothing was held
pub passed_text : (old mid full : LineReader) (raw : List ℕ) → held mid ≡ [] → (x y z : List ℕ) → held old ++ x ≡ raw ++ y → GivesFill mid full y z More → held old ++ x ≡ raw ++ (held full ++ z)
passed_text old mid full raw empty x y z text gives =
    text ∙ ap (λ (r : List ℕ). raw ++ r) (sym (ap (λ (h : List ℕ). h ++ y) empty) ∙ gives)

-- its line feed came
pub Steps-long_whole : (old mid full new : LineReader) (raw : List ℕ) (first later : Option ℕ) (size : ℕ) → HasPassed old.longest raw first → held mid ≡ [] → IsFeedAt (held full) size → later ≡ or_first first (first_byte (take size (held full))) → held new ≡ drop (size + 1) (held full) → HasTaken old new (length raw + (size + 1)) → (x y z : List ℕ) → held old ++ x ≡ raw ++ y → GivesFill mid full y z More → Steps old new (held old ++ x) z (Long true later)
Steps-long_whole old mid full new raw first later size passed empty feed e beyond taken x y z text gives =
    let prefix : List ℕ = take size (held full) in
    let more : HasPassed old.longest (raw ++ prefix) later = HasPassed-more old.longest raw prefix first later passed feed.before e in
    let size-is : length prefix ≡ size = length-take-le size (held full) (let h = feed.within in omega arith) in
    let rest : List ℕ = drop (size + 1) (held full) in
    let parts : held full ++ z ≡ prefix ++ 10 ∷ (rest ++ z) = ap (λ (r : List ℕ). r ++ z) (feed-parts (held full) size feed) ∙ append_assoc prefix (10 ∷ rest) z in (
      raw ++ prefix,
      record { no_feed = more.no_feed; is = passed_text old mid full raw empty x y z text gives ∙ ap (λ (r : List ℕ). raw ++ r) parts ∙ sym (append_assoc raw prefix (10 ∷ (rest ++ z))) ∙ ap (λ (r : List ℕ). (raw ++ prefix) ++ 10 ∷ (r ++ z)) (sym beyond) },
      record { count = (let h = taken.count in omega (arith, length-append raw prefix)); longest = taken.longest },
      record { long = (let h = more.long in omega (arith, without_return-length (raw ++ prefix))); first_is = more.first_is },
    )
