-- What each step of a reader makes of how far a text has been read.
use Rattle.std.proofs.Common.{◌≡◌, ℕ, ◌+◌, true, false, List, [], ◌∷◌, ◌++◌, length, take, Option, refl, sym, ap, ◌∙◌, arith, append_assoc, subst}
use Rattle.std.proofs.lemmas.List.{append-nil, length-append, take_at}
use Rattle.road_text.specs.declared.line_reader.LineReader.{LineReader}
use Rattle.road_text.specs.declared.line_reader.Advance.TheVariants.{Whole, Last, Long, End, Spent, Failed}
use Rattle.road_text.specs.Lines.{lines_of, whole_lines, without_return, HasNoFeed}
use Rattle.road_text.specs.Fields.{first_byte}
use Rattle.road_text.specs.Reader.{held, line_of, budget, IsFreshReader, IsLine, IsLastLine, IsFirstOf, IsLongLine, Steps}
use Rattle.road_text.specs.Progress.{IsBeyond, IsRead, IsBroken, IsOver}
use Rattle.road_text.proofs.LineLemmas.{lines_of-line, lines_of-last, lines_of-nil, whole_lines-line, whole_lines-none, first_byte-without_return}

-- nothing was read
pub IsBeyond-start : (most : ℕ) (text : List ℕ) → IsBeyond most most text text []
IsBeyond-start most text = record { given = []; is = refl; lines = λ more. refl; whole = λ more. refl; count = omega arith }

-- the same with a new reader
pub IsBeyond-fresh : (r : LineReader) (longest most : ℕ) (text : List ℕ) → IsFreshReader r longest most → IsBeyond most (budget r) text (held r ++ text) []
IsBeyond-fresh r longest most text fresh = record {
  given = [];
  is = ap (λ (h : List ℕ). h ++ text) (sym fresh.empty);
  lines = λ more. refl;
  whole = λ more. refl;
  count = (let e = fresh.whole in omega arith);
}

-- one line on
pub IsBeyond-line : (most spare new : ℕ) (text rest raw beyond : List ℕ) (before : List (List ℕ)) → IsBeyond most spare text rest before → IsLine rest raw beyond → new + (length raw + 1) ≡ spare → IsBeyond most new text beyond (before ++ without_return raw ∷ [])
IsBeyond-line most spare new text rest raw beyond before at' line count =
    let given : List ℕ = at'.given in
    let joined : (more : List ℕ) → (given ++ (raw ++ 10 ∷ [])) ++ more ≡ given ++ (raw ++ 10 ∷ more) =
    λ more. append_assoc given (raw ++ 10 ∷ []) more ∙ ap (λ (r : List ℕ). given ++ r) (append_assoc raw (10 ∷ []) more) in
    record {
      given = given ++ (raw ++ 10 ∷ []);
      is = at'.is ∙ ap (λ (r : List ℕ). given ++ r) line.is ∙ sym (joined beyond);
      lines = λ more.
          ap lines_of (joined more) ∙ at'.lines (raw ++ 10 ∷ more)
          ∙ ap (λ (ls : List (List ℕ)). before ++ ls) (lines_of-line raw more line.no_feed)
          ∙ sym (append_assoc before (without_return raw ∷ []) (lines_of more));
      whole = λ more.
          ap whole_lines (joined more) ∙ at'.whole (raw ++ 10 ∷ more)
          ∙ ap (λ (ls : List (List ℕ)). before ++ ls) (whole_lines-line raw more line.no_feed)
          ∙ sym (append_assoc before (without_return raw ∷ []) (whole_lines more));
      count = (let e = at'.count in omega (arith, length-append given (raw ++ 10 ∷ []), length-append raw (10 ∷ [])));
    }

pub IsRead-end : (most spare : ℕ) (text rest : List ℕ) (before : List (List ℕ)) → IsBeyond most spare text rest before → rest ≡ [] → IsRead most text before
IsRead-end most spare text rest before at' none = record {
  lines = ap lines_of (at'.is ∙ ap (λ (r : List ℕ). at'.given ++ r) none) ∙ at'.lines [] ∙ ap (λ (ls : List (List ℕ)). before ++ ls) lines_of-nil ∙ append-nil before;
  short = (let e = at'.count in omega (arith, ap length at'.is, length-append at'.given rest, ap length none));
}

pub IsRead-last : (most spare new : ℕ) (text rest raw beyond : List ℕ) (before : List (List ℕ)) → IsBeyond most spare text rest before → IsLastLine rest raw beyond → new + length raw ≡ spare → IsRead most text (before ++ without_return raw ∷ [])
IsRead-last most spare new text rest raw beyond before at' line count = record {
  lines = ap lines_of (at'.is ∙ ap (λ (r : List ℕ). at'.given ++ r) line.is) ∙ at'.lines raw ∙ ap (λ (ls : List (List ℕ)). before ++ ls) (lines_of-last raw line.no_feed line.some);
  short = (let e = at'.count in omega (arith, ap length at'.is, length-append at'.given rest, ap length line.is));
}

cut_whole : (most spare : ℕ) (text rest raw : List ℕ) (before : List (List ℕ)) (at' : IsBeyond most spare text rest before) → HasNoFeed raw → whole_lines (at'.given ++ raw) ≡ before
cut_whole most spare text rest raw before at' none =
    at'.whole raw ∙ ap (λ (ls : List (List ℕ)). before ++ ls) (whole_lines-none raw none) ∙ append-nil before

-- ---- the steps of a reader

pub beyond_whole : (most : ℕ) (old new : LineReader) (text rest after : List ℕ) (before : List (List ℕ)) → IsBeyond most (budget old) text (held old ++ rest) before → Steps old new (held old ++ rest) after Whole → IsBeyond most (budget new) text (held new ++ after) (before ++ line_of new ∷ [])
beyond_whole most old new text rest after before at' (raw, line, taken, shows) =
    subst (λ (l : List ℕ). IsBeyond most (budget new) text (held new ++ after) (before ++ l ∷ [])) (sym shows.is)
    (IsBeyond-line most (budget old) (budget new) text (held old ++ rest) raw (held new ++ after) before at' line taken.count)

pub beyond_long : (most : ℕ) (old new : LineReader) (text rest after : List ℕ) (before : List (List ℕ)) (first : Option ℕ) → IsBeyond most (budget old) text (held old ++ rest) before → Steps old new (held old ++ rest) after (Long true first) → (line : List ℕ) × IsLongLine old.longest line first × IsBeyond most (budget new) text (held new ++ after) (before ++ line ∷ [])
beyond_long most old new text rest after before first at' (raw, line, taken, long) = (
  without_return raw,
  record { long = long.long; first_is = subst (λ (o : Option ℕ). IsFirstOf o (first_byte (without_return raw))) (sym long.first_is) (first_byte-without_return raw) },
  IsBeyond-line most (budget old) (budget new) text (held old ++ rest) raw (held new ++ after) before at' line taken.count,
)

pub read_last : (most : ℕ) (old new : LineReader) (text rest after : List ℕ) (before : List (List ℕ)) → IsBeyond most (budget old) text (held old ++ rest) before → Steps old new (held old ++ rest) after Last → IsRead most text (before ++ line_of new ∷ [])
read_last most old new text rest after before at' (raw, line, taken, shows) =
    subst (λ (l : List ℕ). IsRead most text (before ++ l ∷ [])) (sym shows.is)
    (IsRead-last most (budget old) (budget new) text (held old ++ rest) raw (held new ++ after) before at' line taken.count)

pub read_long : (most : ℕ) (old new : LineReader) (text rest after : List ℕ) (before : List (List ℕ)) (first : Option ℕ) → IsBeyond most (budget old) text (held old ++ rest) before → Steps old new (held old ++ rest) after (Long false first) → (line : List ℕ) × IsLongLine old.longest line first × IsRead most text (before ++ line ∷ [])
read_long most old new text rest after before first at' (raw, line, taken, long) = (
  without_return raw,
  record { long = long.long; first_is = subst (λ (o : Option ℕ). IsFirstOf o (first_byte (without_return raw))) (sym long.first_is) (first_byte-without_return raw) },
  IsRead-last most (budget old) (budget new) text (held old ++ rest) raw (held new ++ after) before at' line taken.count,
)

pub read_end : (most : ℕ) (old new : LineReader) (text rest after : List ℕ) (before : List (List ℕ)) → IsBeyond most (budget old) text (held old ++ rest) before → Steps old new (held old ++ rest) after End → IsRead most text before
read_end most old new text rest after before at' step = IsRead-end most (budget old) text (held old ++ rest) before at' step.0

pub over_spent : (most : ℕ) (old new : LineReader) (text rest after : List ℕ) (before : List (List ℕ)) → IsBeyond most (budget old) text (held old ++ rest) before → Steps old new (held old ++ rest) after Spent → IsOver most text before
over_spent most old new text rest after before at' (raw, byte, spent) =
    let parts : text ≡ (at'.given ++ raw) ++ byte ∷ after = at'.is ∙ ap (λ (r : List ℕ). at'.given ++ r) spent.is ∙ sym (append_assoc at'.given raw (byte ∷ after)) in
    let len : length (at'.given ++ raw) ≡ most = (let e = at'.count in let f = spent.count in omega (arith, length-append at'.given raw)) in
    record {
      long = omega (arith, ap length parts, length-append (at'.given ++ raw) (byte ∷ after));
      whole = ap (λ (t : List ℕ). whole_lines (take most t)) parts ∙ ap whole_lines (take_at (at'.given ++ raw) (byte ∷ after) most len) ∙ cut_whole most (budget old) text (held old ++ rest) raw before at' spent.no_feed;
    }

pub broken_failed : (most : ℕ) (old new : LineReader) (text rest after : List ℕ) (before : List (List ℕ)) → IsBeyond most (budget old) text (held old ++ rest) before → Steps old new (held old ++ rest) after Failed → IsBroken text after before
broken_failed most old new text rest after before at' (raw, cut) = record {
  taken = at'.given ++ raw;
  is = at'.is ∙ ap (λ (r : List ℕ). at'.given ++ r) cut.is ∙ sym (append_assoc at'.given raw after);
  whole = cut_whole most (budget old) text (held old ++ rest) raw before at' cut.no_feed;
}
