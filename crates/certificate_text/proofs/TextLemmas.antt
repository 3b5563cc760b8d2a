-- The text of a certificate from its parts.
use Rattle.std.proofs.Common.{◌≡◌, ℕ, List, [], ◌∷◌, ◌++◌, map, append_assoc, append-nil, refl, sym, ap, ◌∙◌, codes}
use Rattle.std.specs.List.{flat_map}
use Rattle.std.proofs.lemmas.List.Concat.{flat_map-append}
use Rattle.std.proofs.lemmas.List.Folds.{flat_map-map}
use Rattle.certificate_text.specs.declared.certificate.Block.{Block}
use Rattle.certificate_text.specs.declared.certificate.Reason.{Reason}
use Rattle.certificate_text.specs.declared.certificate.Reason.TheVariants as reason
use Rattle.certificate_text.specs.declared.certificate.ViaRow.{ViaRow}
use Rattle.certificate_text.specs.declared.certificate.Finding.{Finding}
use Rattle.certificate_text.specs.declared.certificate.Finding.TheVariants.{Nothing, Found}
use Rattle.certificate_text.specs.declared.certificate.Certificate.{Certificate}
use Rattle.certificate_text.specs.Texts.{Line, Version, Counts, Asks, Heads, Row, End, Optimum, Route, Via, Done, reason_text, spaced, block_lines, blocks_lines, finding_lines, certificate_text}
use Rattle.certificate_text.specs.Texts.{numbers_text}
use Rattle.certificate_text.specs.Parts.{whole_line, reason_head, reason_detour, via_head, rows_text, block_text, blocks_text, routes_text, vias_text, finding_text, first_lines, text_of}

-- a reason is its head and its detour
reason_parts : (r : Reason) → reason_head r ++ numbers_text (reason_detour r) ≡ reason_text r
reason_parts reason.Optimum = refl
reason_parts (reason.Shared sum) = append-nil (codes " shared" ++ spaced sum)
reason_parts (reason.Local first last detour) = refl
reason_parts (reason.Stretch first last detour) = refl
reason_parts (reason.Listed name) = append-nil (codes " listed" ++ spaced name)

-- a line of a vertex with its detour is its head and its detour
pub via_parts : (v : ViaRow) → whole_line (Via v) ≡ via_head v ++ numbers_text (reason_detour v.reason) ++ 10 ∷ []
via_parts v =
    ap (λ (l : List ℕ). codes "via" ++ spaced v.vertex ++ l ++ 10 ∷ []) (sym (reason_parts v.reason))
    ∙ ap (λ (l : List ℕ). l ++ 10 ∷ []) (sym (append_assoc (codes "via" ++ spaced v.vertex) (reason_head v.reason) (numbers_text (reason_detour v.reason))))

abbrev whole_lines : List Line → List ℕ
whole_lines lines = flat_map whole_line lines

block_whole : (b : Block) → block_text b ≡ whole_lines (block_lines b)
block_whole b =
    append_assoc (whole_line (Heads b.kind b.root b.radius)) (rows_text b.rows) (whole_line End)
    ∙ ap (λ (l : List ℕ). whole_line (Heads b.kind b.root b.radius) ++ l)
    (ap (λ (l : List ℕ). l ++ whole_line End) (sym (flat_map-map whole_line Row b.rows)) ∙ sym (flat_map-append whole_line (map Row b.rows) (End ∷ [])))

blocks_whole : (bs : List Block) → blocks_text bs ≡ whole_lines (blocks_lines bs)
blocks_whole [] = refl
blocks_whole (b ∷ bs) =
    ap (λ (l : List ℕ). l ++ blocks_text bs) (block_whole b)
    ∙ (ap (λ (l : List ℕ). whole_lines (block_lines b) ++ l) (blocks_whole bs) ∙ sym (flat_map-append whole_line (block_lines b) (blocks_lines bs)))

finding_whole : (f : Finding) → finding_text f ≡ whole_lines (finding_lines f)
finding_whole Nothing = refl
finding_whole (Found length arcs routes vias) =
    append_assoc (whole_line (Optimum length arcs)) (routes_text routes) (vias_text vias)
    ∙ ap (λ (l : List ℕ). whole_line (Optimum length arcs) ++ l)
    (ap (λ (l : List ℕ). l ++ vias_text vias) (sym (flat_map-map whole_line Route routes))
    ∙ (ap (λ (l : List ℕ). whole_lines (map Route routes) ++ l) (sym (flat_map-map whole_line Via vias)) ∙ sym (flat_map-append whole_line (map Route routes) (map Via vias))))

-- the four parts one after another
parts_whole : (first blocks finding last : List ℕ) (b f : List Line) → blocks ≡ whole_lines b → finding ≡ whole_lines f → last ≡ whole_lines (Done ∷ []) →
    first ++ blocks ++ finding ++ last ≡ first ++ whole_lines (b ++ (f ++ Done ∷ []))
parts_whole first blocks finding last b f same_b same_f same_l =
    append_assoc (first ++ blocks) finding last
    ∙ (append_assoc first blocks (finding ++ last)
    ∙ ap (λ (l : List ℕ). first ++ l)
    (ap (λ (l : List ℕ). l ++ (finding ++ last)) same_b
    ∙ (ap (λ (l : List ℕ). whole_lines b ++ l)
    (ap (λ (l : List ℕ). l ++ last) same_f ∙ (ap (λ (l : List ℕ). whole_lines f ++ l) same_l ∙ sym (flat_map-append whole_line f (Done ∷ []))))
    ∙ sym (flat_map-append whole_line b (f ++ Done ∷ [])))))

-- the first three lines
first_whole : (counts asks : Line) (lines : List Line) → whole_lines (Version ∷ counts ∷ asks ∷ lines) ≡ whole_line Version ++ whole_line counts ++ whole_line asks ++ whole_lines lines
first_whole counts asks lines =
    sym (append_assoc (whole_line Version ++ whole_line counts) (whole_line asks) (whole_lines lines) ∙ append_assoc (whole_line Version) (whole_line counts) (whole_line asks ++ whole_lines lines))

pub certificate_parts : (c : Certificate) → text_of c ≡ certificate_text c
certificate_parts c =
    parts_whole (first_lines c) (blocks_text c.blocks) (finding_text c.finding) (whole_line Done) (blocks_lines c.blocks) (finding_lines c.finding) (blocks_whole c.blocks) (finding_whole c.finding) refl
    ∙ sym (first_whole (Counts c.vertices c.arcs) (Asks c.query) (blocks_lines c.blocks ++ (finding_lines c.finding ++ Done ∷ [])))
