-- A certificate as text: its lines, in their order.
--   Line               what one line of a certificate says
--   spaced n           a number after a space
--   numbers_text ns    numbers, each after a space
--   ratio_text r       a ratio after a space, as its two numbers with a slash between them
--   radius_text r      the word for no limit, or for a radius, and the radius
--   kind_word k        the word of a direction
--   reason_text r      why a vertex is as it is, from its word on
--   line_text line     a line without its line feed
--   row_lines, block_lines, blocks_lines, finding_lines   the lines of a part of a certificate
--   lines_of c         the lines of a certificate
--   certificate_text c all of them, each with its line feed, which is byte 10
-- Between two fields stands one space, which is byte 32; a slash is byte 47. Numbers are in decimal, with no needless zero.
use Rattle.std.specs.Prelude.{ℕ, List, [], ◌∷◌, ◌++◌, Option, Some, None, map, codes, decimal}
use Rattle.std.specs.List.{flat_map}
use Rattle.road_model.specs.declared.request.CursorQuery.{CursorQuery}
use Rattle.certificate_text.specs.declared.certificate.BlockKind.{BlockKind}
use Rattle.certificate_text.specs.declared.certificate.BlockKind.TheVariants as kind
use Rattle.certificate_text.specs.declared.certificate.BlockRow.{BlockRow}
use Rattle.certificate_text.specs.declared.certificate.Block.{Block}
use Rattle.certificate_text.specs.declared.certificate.CertRoute.{CertRoute}
use Rattle.certificate_text.specs.declared.certificate.Reason.{Reason}
use Rattle.certificate_text.specs.declared.certificate.Reason.TheVariants as reason
use Rattle.certificate_text.specs.declared.certificate.ViaRow.{ViaRow}
use Rattle.certificate_text.specs.declared.certificate.Finding.{Finding}
use Rattle.certificate_text.specs.declared.certificate.Finding.TheVariants.{Nothing, Found}
use Rattle.certificate_text.specs.declared.certificate.Certificate.{Certificate}

pub data Line : Type 0 where
  Version : Line
  Counts : ℕ → ℕ → Line
  Asks : CursorQuery → Line
  Heads : BlockKind → ℕ → Option ℕ → Line
  Row : BlockRow → Line
  End : Line
  None_found : Line
  Optimum : ℕ → List ℕ → Line
  Route : CertRoute → Line
  Via : ViaRow → Line
  Done : Line

abbrev pub spaced : ℕ → List ℕ
spaced n = 32 ∷ decimal n

abbrev pub numbers_text : List ℕ → List ℕ
numbers_text ns = flat_map spaced ns

abbrev pub ratio_text : ℕ × ℕ → List ℕ
ratio_text r = spaced r.0 ++ 47 ∷ decimal r.1

abbrev pub radius_text : Option ℕ → List ℕ
radius_text None = codes " all"
radius_text (Some r) = codes " radius" ++ spaced r

abbrev pub kind_word : BlockKind → List ℕ
kind_word kind.From = codes "from"
kind_word kind.To = codes "to"

abbrev pub reason_text : Reason → List ℕ
reason_text reason.Optimum = codes " optimum"
reason_text (reason.Shared sum) = codes " shared" ++ spaced sum
reason_text (reason.Local first last detour) = codes " local" ++ spaced first ++ spaced last ++ numbers_text detour
reason_text (reason.Stretch first last detour) = codes " stretch" ++ spaced first ++ spaced last ++ numbers_text detour
reason_text (reason.Listed name) = codes " listed" ++ spaced name

abbrev pub line_text : Line → List ℕ
line_text Version = codes "cert 1"
line_text (Counts n m) = codes "graph" ++ spaced n ++ spaced m
line_text (Asks q) = codes "query" ++ spaced q.from ++ spaced q.to ++ ratio_text q.gamma ++ ratio_text q.alpha ++ ratio_text q.epsilon
line_text (Heads k root radius) = kind_word k ++ spaced root ++ radius_text radius
line_text (Row r) = codes "row" ++ spaced r.vertex ++ spaced r.label ++ spaced r.arc
line_text End = codes "end"
line_text None_found = codes "none"
line_text (Optimum length arcs) = codes "optimum" ++ spaced length ++ numbers_text arcs
line_text (Route r) = codes "route" ++ spaced r.via ++ spaced r.length ++ spaced r.shared ++ spaced r.plateau ++ spaced r.rank ++ numbers_text r.arcs
line_text (Via v) = codes "via" ++ spaced v.vertex ++ reason_text v.reason
line_text Done = codes "done"

abbrev pub block_lines : Block → List Line
block_lines b = Heads b.kind b.root b.radius ∷ (map Row b.rows ++ End ∷ [])

abbrev pub blocks_lines : List Block → List Line
blocks_lines bs = flat_map block_lines bs

abbrev pub finding_lines : Finding → List Line
finding_lines Nothing = None_found ∷ []
finding_lines (Found length arcs routes vias) = Optimum length arcs ∷ (map Route routes ++ map Via vias)

abbrev pub lines_of : Certificate → List Line
lines_of c = Version ∷ Counts c.vertices c.arcs ∷ Asks c.query ∷ (blocks_lines c.blocks ++ (finding_lines c.finding ++ Done ∷ []))

abbrev pub certificate_text : Certificate → List ℕ
certificate_text c = flat_map (λ line. line_text line ++ 10 ∷ []) (lines_of c)
