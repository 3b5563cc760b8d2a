-- Lines of a certificate.
--   line_after line bs          the line after blocks, the first of which begins on the line
--   line_after_routes line rs   the line after routes
use Rattle.std.specs.Prelude.{◌+◌, ℕ, List, [], ◌∷◌, length}
use Rattle.certificate_text.specs.declared.certificate.Block.{Block}
use Rattle.certificate_text.specs.declared.certificate.CertRoute.{CertRoute}

abbrev pub line_after : ℕ → List Block → ℕ
line_after line [] = line
line_after line (b ∷ bs) = line_after (line + 2 + length b.rows) bs

abbrev pub line_after_routes : ℕ → List CertRoute → ℕ
line_after_routes line [] = line
line_after_routes line (r ∷ rs) = line_after_routes (line + 1) rs
