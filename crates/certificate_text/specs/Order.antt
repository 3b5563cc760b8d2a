-- In which order the lines of a certificate stand.
--   after_start, after_version, after_counts, between_blocks, inside_block, after_none, after_optimum
--                        what a line makes of a certificate of which this much was read
--   after_block, before_vias   what it makes of one only where a block was read, or no reason
--   step progress line   the same, by how much was read
--   step_raw             the same, of a raw line
--   run progress lines   what lines make of it, one after another
--   run_raw              the same, of raw lines
--   opening_lines opening    the lines up to the last block
--   lines_in progress    the lines that were read
--   IsReached progress   a block was read where a finding was
use Rattle.std.specs.Prelude.{ℕ, ◌<◌, List, [], ◌∷◌, ◌++◌, Option, Some, None, length, map}
use Rattle.certificate_text.specs.declared.certificate.Block.{Block}
use Rattle.certificate_text.specs.declared.certificate.Finding.TheVariants.{Nothing, Found}
use Rattle.certificate_text.specs.declared.order.Opening.{Opening}
use Rattle.certificate_text.specs.declared.order.Alternatives.{Alternatives}
use Rattle.certificate_text.specs.declared.order.Progress.{Progress}
use Rattle.certificate_text.specs.declared.order.Progress.TheVariants as progress
use Rattle.certificate_text.specs.Texts.{Line, Version, Counts, Asks, Heads, Row, End, None_found, Optimum, Route, Via, Done, lines_of, blocks_lines}
use Rattle.certificate_text.specs.Words.{◌>>=◌, line_of}

abbrev pub after_start : Line → Option Progress
after_start Version = Some progress.Named
after_start _ = None

abbrev pub after_version : Line → Option Progress
after_version (Counts n m) = Some (progress.Counted n m)
after_version _ = None

abbrev pub after_counts : ℕ → ℕ → Line → Option Progress
after_counts n m (Asks q) = Some (progress.Between (record { vertices = n; arcs = m; query = q; blocks = [] }))
after_counts n m _ = None

-- a finding comes after a block only
abbrev pub after_block : List Block → Progress → Option Progress
after_block [] progress = None
after_block (block ∷ blocks) progress = Some progress

abbrev pub between_blocks : Opening → Line → Option Progress
between_blocks opening (Heads kind root radius) = Some (progress.Inside opening (record { kind = kind; root = root; radius = radius; rows = [] }))
between_blocks opening None_found = after_block opening.blocks (progress.NoneFound opening)
between_blocks opening (Optimum length arcs) = after_block opening.blocks (progress.Found opening (record { length = length; arcs = arcs; routes = []; vias = [] }))
between_blocks opening _ = None

abbrev pub inside_block : Opening → Block → Line → Option Progress
inside_block opening block (Row r) = Some (progress.Inside opening (record block { rows = block.rows ++ r ∷ [] }))
inside_block opening block End = Some (progress.Between (record opening { blocks = opening.blocks ++ block ∷ [] }))
inside_block opening block _ = None

abbrev pub after_none : Opening → Line → Option Progress
after_none opening Done = Some (progress.Whole (record { vertices = opening.vertices; arcs = opening.arcs; query = opening.query; blocks = opening.blocks; finding = Nothing }))
after_none opening _ = None

-- a route comes before the reasons only
abbrev pub before_vias : {V : Type 0} → List V → Progress → Option Progress
before_vias [] progress = Some progress
before_vias (via ∷ vias) progress = None

abbrev pub after_optimum : Opening → Alternatives → Line → Option Progress
after_optimum opening a (Route r) = before_vias a.vias (progress.Found opening (record a { routes = a.routes ++ r ∷ [] }))
after_optimum opening a (Via v) = Some (progress.Found opening (record a { vias = a.vias ++ v ∷ [] }))
after_optimum opening a Done = Some (progress.Whole (record { vertices = opening.vertices; arcs = opening.arcs; query = opening.query; blocks = opening.blocks; finding = Found a.length a.arcs a.routes a.vias }))
after_optimum opening a _ = None

abbrev pub step : Progress → Line → Option Progress
step progress.Start line = after_start line
step progress.Named line = after_version line
step (progress.Counted n m) line = after_counts n m line
step (progress.Between opening) line = between_blocks opening line
step (progress.Inside opening block) line = inside_block opening block line
step (progress.NoneFound opening) line = after_none opening line
step (progress.Found opening a) line = after_optimum opening a line
step (progress.Whole c) line = None

unfoldable pub step_raw : Progress → List ℕ → Option Progress
step_raw progress raw = line_of raw >>= λ line. step progress line

unfoldable pub run : Progress → List Line → Option Progress
run progress [] = Some progress
run progress (line ∷ lines) = step progress line >>= λ next. run next lines

unfoldable pub run_raw : Progress → List (List ℕ) → Option Progress
run_raw progress [] = Some progress
run_raw progress (raw ∷ raws) = step_raw progress raw >>= λ next. run_raw next raws

abbrev pub opening_lines : Opening → List Line
opening_lines opening = Version ∷ Counts opening.vertices opening.arcs ∷ Asks opening.query ∷ blocks_lines opening.blocks

abbrev pub lines_in : Progress → List Line
lines_in progress.Start = []
lines_in progress.Named = Version ∷ []
lines_in (progress.Counted n m) = Version ∷ Counts n m ∷ []
lines_in (progress.Between opening) = opening_lines opening
lines_in (progress.Inside opening block) = opening_lines opening ++ Heads block.kind block.root block.radius ∷ map Row block.rows
lines_in (progress.NoneFound opening) = opening_lines opening ++ None_found ∷ []
lines_in (progress.Found opening a) = opening_lines opening ++ Optimum a.length a.arcs ∷ (map Route a.routes ++ map Via a.vias)
lines_in (progress.Whole c) = lines_of c

abbrev pub IsReached : Progress → Type 0
IsReached progress.Start = Unit {0}
IsReached progress.Named = Unit {0}
IsReached (progress.Counted n m) = Unit {0}
IsReached (progress.Between opening) = Unit {0}
IsReached (progress.Inside opening block) = Unit {0}
IsReached (progress.NoneFound opening) = 0 < length opening.blocks
IsReached (progress.Found opening a) = 0 < length opening.blocks
IsReached (progress.Whole c) = 0 < length c.blocks
