-- The text of a certificate by the parts in which it is written.
--   whole_line line    a line with its line feed
--   tail_text ns       the numbers that end a line, and its line feed
--   optimum_head, route_head, via_head   a line up to the numbers that end it
--   reason_head r      a reason up to its detour
--   reason_detour r    its detour, which is empty where it has none
--   rows_text, block_text, blocks_text, routes_text, vias_text, finding_text   the lines of a part of a certificate
--   first_lines c      the lines before the first block
--   text_of c          all lines
use Rattle.std.specs.Prelude.{ℕ, List, [], ◌∷◌, ◌++◌, codes}
use Rattle.std.specs.List.{flat_map}
use Rattle.certificate_text.specs.declared.certificate.BlockRow.{BlockRow}
use Rattle.certificate_text.specs.declared.certificate.Block.{Block}
use Rattle.certificate_text.specs.declared.certificate.CertRoute.{CertRoute}
use Rattle.certificate_text.specs.declared.certificate.Reason.{Reason}
use Rattle.certificate_text.specs.declared.certificate.Reason.TheVariants as reason
use Rattle.certificate_text.specs.declared.certificate.ViaRow.{ViaRow}
use Rattle.certificate_text.specs.declared.certificate.Finding.{Finding}
use Rattle.certificate_text.specs.declared.certificate.Finding.TheVariants.{Nothing, Found}
use Rattle.certificate_text.specs.declared.certificate.Certificate.{Certificate}
use Rattle.certificate_text.specs.Texts.{Line, Version, Counts, Asks, Heads, Row, End, None_found, Optimum, Route, Via, Done, line_text, numbers_text, spaced}

abbrev pub whole_line : Line → List ℕ
whole_line line = line_text line ++ 10 ∷ []

abbrev pub tail_text : List ℕ → List ℕ
tail_text ns = numbers_text ns ++ 10 ∷ []

abbrev pub optimum_head : ℕ → List ℕ
optimum_head length = codes "optimum" ++ spaced length

abbrev pub route_head : CertRoute → List ℕ
route_head r = codes "route" ++ spaced r.via ++ spaced r.length ++ spaced r.shared ++ spaced r.plateau ++ spaced r.rank

abbrev pub reason_head : Reason → List ℕ
reason_head reason.Optimum = codes " optimum"
reason_head (reason.Shared sum) = codes " shared" ++ spaced sum
reason_head (reason.Local first last detour) = codes " local" ++ spaced first ++ spaced last
reason_head (reason.Stretch first last detour) = codes " stretch" ++ spaced first ++ spaced last
reason_head (reason.Listed name) = codes " listed" ++ spaced name

abbrev pub reason_detour : Reason → List ℕ
reason_detour reason.Optimum = []
reason_detour (reason.Shared sum) = []
reason_detour (reason.Local first last detour) = detour
reason_detour (reason.Stretch first last detour) = detour
reason_detour (reason.Listed name) = []

abbrev pub via_head : ViaRow → List ℕ
via_head v = codes "via" ++ spaced v.vertex ++ reason_head v.reason

abbrev pub rows_text : List BlockRow → List ℕ
rows_text rows = flat_map (λ row. whole_line (Row row)) rows

abbrev pub block_text : Block → List ℕ
block_text b = whole_line (Heads b.kind b.root b.radius) ++ rows_text b.rows ++ whole_line End

abbrev pub blocks_text : List Block → List ℕ
blocks_text blocks = flat_map block_text blocks

abbrev pub routes_text : List CertRoute → List ℕ
routes_text routes = flat_map (λ route. whole_line (Route route)) routes

abbrev pub vias_text : List ViaRow → List ℕ
vias_text vias = flat_map (λ via. whole_line (Via via)) vias

abbrev pub finding_text : Finding → List ℕ
finding_text Nothing = whole_line None_found
finding_text (Found length arcs routes vias) = whole_line (Optimum length arcs) ++ routes_text routes ++ vias_text vias

abbrev pub first_lines : Certificate → List ℕ
first_lines c = whole_line Version ++ whole_line (Counts c.vertices c.arcs) ++ whole_line (Asks c.query)

abbrev pub text_of : Certificate → List ℕ
text_of c = first_lines c ++ blocks_text c.blocks ++ finding_text c.finding ++ whole_line Done
