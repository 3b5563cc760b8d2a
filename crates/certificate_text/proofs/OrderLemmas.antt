-- The order of lines: what was read begins a certificate, and each certificate is read.
use Rattle.std.proofs.Common.{◌≡◌, ℕ, ◌<◌, List, [], ◌∷◌, ◌++◌, length, map, Option, Some, None, refl, sym, ap, subst, ◌∙◌, append_assoc, arith}
use Rattle.std.proofs.lemmas.List.{append-nil, map_push}
use Rattle.std.proofs.lemmas.List.Concat.{flat_map-append, flat_map-cons}
use Rattle.std.proofs.lemmas.Option.{same_Some}
use Rattle.certificate_text.specs.declared.certificate.Block.{Block}
use Rattle.certificate_text.specs.declared.certificate.BlockRow.{BlockRow}
use Rattle.certificate_text.specs.declared.certificate.CertRoute.{CertRoute}
use Rattle.certificate_text.specs.declared.certificate.ViaRow.{ViaRow}
use Rattle.certificate_text.specs.declared.certificate.Finding.{Finding}
use Rattle.certificate_text.specs.declared.certificate.Finding.TheVariants.{Nothing, Found}
use Rattle.certificate_text.specs.declared.certificate.Certificate.{Certificate}
use Rattle.certificate_text.specs.declared.order.Opening.{Opening}
use Rattle.certificate_text.specs.declared.order.Alternatives.{Alternatives}
use Rattle.certificate_text.specs.declared.order.Progress.{Progress}
use Rattle.certificate_text.specs.declared.order.Progress.TheVariants as progress
use Rattle.certificate_text.specs.Texts.{Line, Version, Counts, Asks, Heads, Row, End, None_found, Optimum, Route, Via, Done, block_lines, blocks_lines, finding_lines, lines_of}
use Rattle.certificate_text.specs.Words.{◌>>=◌}
use Rattle.certificate_text.specs.Order.{after_start, after_version, after_counts, after_block, between_blocks, inside_block, after_none, before_vias, after_optimum, step, run, opening_lines, lines_in, IsReached}

-- ---- one line on

pub record Stepped (old : Progress) (line : Line) (new : Progress) : Type 0 where
  pub lines : lines_in new ≡ lines_in old ++ line ∷ []
  pub reached : IsReached old → IsReached new

stepped : (old : Progress) (line : Line) (made new : Progress) → made ≡ new → lines_in made ≡ lines_in old ++ line ∷ [] → (IsReached old → IsReached made) → Stepped old line new
stepped old line made new same lines reached = subst (λ (p : Progress). Stepped old line p) same (record { lines = lines; reached = reached })

after_block_some : (blocks : List Block) (made new : Progress) → after_block blocks made ≡ Some new → (0 < length blocks) × (made ≡ new)
after_block_some [] made new e = absurd (cc)
after_block_some (block ∷ blocks) made new e = (omega arith, same_Some made new e)

before_vias_some : (vias : List ViaRow) (made new : Progress) → before_vias vias made ≡ Some new → (vias ≡ []) × (made ≡ new)
before_vias_some [] made new e = (refl, same_Some made new e)
before_vias_some (via ∷ vias) made new e = absurd (cc)

row_lines-push : (opening : List Line) (head : Line) (rows : List BlockRow) (r : BlockRow) → opening ++ head ∷ map Row (rows ++ r ∷ []) ≡ (opening ++ head ∷ map Row rows) ++ Row r ∷ []
row_lines-push opening head rows r = ap (λ (ls : List Line). opening ++ head ∷ ls) (map_push Row rows r) ∙ sym (append_assoc opening (head ∷ map Row rows) (Row r ∷ []))

pub end_lines : (blocks : List Block) (block : Block) → blocks_lines (blocks ++ block ∷ []) ≡ (blocks_lines blocks ++ Heads block.kind block.root block.radius ∷ map Row block.rows) ++ End ∷ []
end_lines blocks block =
    flat_map-append block_lines blocks (block ∷ [])
    ∙ ap (λ (ls : List Line). blocks_lines blocks ++ ls) (append-nil (block_lines block))
    ∙ sym (append_assoc (blocks_lines blocks) (Heads block.kind block.root block.radius ∷ map Row block.rows) (End ∷ []))

route_lines-push : (opening : List Line) (optimum : Line) (routes : List CertRoute) (vias : List ViaRow) (r : CertRoute) → vias ≡ [] → opening ++ optimum ∷ (map Route (routes ++ r ∷ []) ++ map Via vias) ≡ (opening ++ optimum ∷ (map Route routes ++ map Via vias)) ++ Route r ∷ []
route_lines-push opening optimum routes vias r none =
    ap (λ (vs : List ViaRow). opening ++ optimum ∷ (map Route (routes ++ r ∷ []) ++ map Via vs)) none
    ∙ ap (λ (ls : List Line). opening ++ optimum ∷ ls) (append-nil (map Route (routes ++ r ∷ [])) ∙ map_push Route routes r)
    ∙ sym (append_assoc opening (optimum ∷ map Route routes) (Route r ∷ []))
    ∙ ap (λ (ls : List Line). (opening ++ optimum ∷ ls) ++ Route r ∷ []) (sym (append-nil (map Route routes)))
    ∙ ap (λ (vs : List ViaRow). (opening ++ optimum ∷ (map Route routes ++ map Via vs)) ++ Route r ∷ []) (sym none)

via_lines-push : (opening : List Line) (optimum : Line) (routes : List CertRoute) (vias : List ViaRow) (v : ViaRow) → opening ++ optimum ∷ (map Route routes ++ map Via (vias ++ v ∷ [])) ≡ (opening ++ optimum ∷ (map Route routes ++ map Via vias)) ++ Via v ∷ []
via_lines-push opening optimum routes vias v =
    ap (λ (ls : List Line). opening ++ optimum ∷ (map Route routes ++ ls)) (map_push Via vias v)
    ∙ ap (λ (ls : List Line). opening ++ optimum ∷ ls) (sym (append_assoc (map Route routes) (map Via vias) (Via v ∷ [])))
    ∙ sym (append_assoc opening (optimum ∷ (map Route routes ++ map Via vias)) (Via v ∷ []))

start_stepped : (line : Line) (q : Progress) → after_start line ≡ Some q → Stepped progress.Start line q
start_stepped Version q e = stepped progress.Start Version progress.Named q (same_Some progress.Named q e) refl (λ h. tt)
start_stepped (Counts n m) q e = absurd (cc)
start_stepped (Asks query) q e = absurd (cc)
start_stepped (Heads kind root radius) q e = absurd (cc)
start_stepped (Row r) q e = absurd (cc)
start_stepped End q e = absurd (cc)
start_stepped None_found q e = absurd (cc)
start_stepped (Optimum length arcs) q e = absurd (cc)
start_stepped (Route r) q e = absurd (cc)
start_stepped (Via v) q e = absurd (cc)
start_stepped Done q e = absurd (cc)

version_stepped : (line : Line) (q : Progress) → after_version line ≡ Some q → Stepped progress.Named line q
version_stepped Version q e = absurd (cc)
version_stepped (Counts n m) q e = stepped progress.Named (Counts n m) (progress.Counted n m) q (same_Some (progress.Counted n m) q e) refl (λ h. tt)
version_stepped (Asks query) q e = absurd (cc)
version_stepped (Heads kind root radius) q e = absurd (cc)
version_stepped (Row r) q e = absurd (cc)
version_stepped End q e = absurd (cc)
version_stepped None_found q e = absurd (cc)
version_stepped (Optimum length arcs) q e = absurd (cc)
version_stepped (Route r) q e = absurd (cc)
version_stepped (Via v) q e = absurd (cc)
version_stepped Done q e = absurd (cc)

counts_stepped : (a b : ℕ) (line : Line) (q : Progress) → after_counts a b line ≡ Some q → Stepped (progress.Counted a b) line q
counts_stepped a b Version q e = absurd (cc)
counts_stepped a b (Counts n m) q e = absurd (cc)
counts_stepped a b (Asks query) q e = stepped (progress.Counted a b) (Asks query) (progress.Between (record { vertices = a; arcs = b; query = query; blocks = [] })) q (same_Some (progress.Between (record { vertices = a; arcs = b; query = query; blocks = [] })) q e) refl (λ h. tt)
counts_stepped a b (Heads kind root radius) q e = absurd (cc)
counts_stepped a b (Row r) q e = absurd (cc)
counts_stepped a b End q e = absurd (cc)
counts_stepped a b None_found q e = absurd (cc)
counts_stepped a b (Optimum length arcs) q e = absurd (cc)
counts_stepped a b (Route r) q e = absurd (cc)
counts_stepped a b (Via v) q e = absurd (cc)
counts_stepped a b Done q e = absurd (cc)

between_stepped : (opening : Opening) (line : Line) (q : Progress) → between_blocks opening line ≡ Some q → Stepped (progress.Between opening) line q
between_stepped opening Version q e = absurd (cc)
between_stepped opening (Counts n m) q e = absurd (cc)
between_stepped opening (Asks query) q e = absurd (cc)
between_stepped opening (Heads kind root radius) q e =
    let made : Progress = progress.Inside opening (record { kind = kind; root = root; radius = radius; rows = [] }) in
    stepped (progress.Between opening) (Heads kind root radius) made q (same_Some made q e) refl (λ h. tt)
between_stepped opening (Row r) q e = absurd (cc)
between_stepped opening End q e = absurd (cc)
between_stepped opening None_found q e =
    let made : Progress = progress.NoneFound opening in
    let some = after_block_some opening.blocks made q e in
    stepped (progress.Between opening) None_found made q some.1 refl (λ h. some.0)
between_stepped opening (Optimum length arcs) q e =
    let made : Progress = progress.Found opening (record { length = length; arcs = arcs; routes = []; vias = [] }) in
    let some = after_block_some opening.blocks made q e in
    stepped (progress.Between opening) (Optimum length arcs) made q some.1 refl (λ h. some.0)
between_stepped opening (Route r) q e = absurd (cc)
between_stepped opening (Via v) q e = absurd (cc)
between_stepped opening Done q e = absurd (cc)

inside_stepped : (opening : Opening) (block : Block) (line : Line) (q : Progress) → inside_block opening block line ≡ Some q → Stepped (progress.Inside opening block) line q
inside_stepped opening block Version q e = absurd (cc)
inside_stepped opening block (Counts n m) q e = absurd (cc)
inside_stepped opening block (Asks query) q e = absurd (cc)
inside_stepped opening block (Heads kind root radius) q e = absurd (cc)
inside_stepped opening block (Row r) q e =
    let made : Progress = progress.Inside opening (record block { rows = block.rows ++ r ∷ [] }) in
    stepped (progress.Inside opening block) (Row r) made q (same_Some made q e) (row_lines-push (opening_lines opening) (Heads block.kind block.root block.radius) block.rows r) (λ h. tt)
inside_stepped opening block End q e =
    let made : Progress = progress.Between (record opening { blocks = opening.blocks ++ block ∷ [] }) in
    stepped (progress.Inside opening block) End made q (same_Some made q e) (ap (λ (ls : List Line). Version ∷ Counts opening.vertices opening.arcs ∷ Asks opening.query ∷ ls) (end_lines opening.blocks block)) (λ h. tt)
inside_stepped opening block None_found q e = absurd (cc)
inside_stepped opening block (Optimum length arcs) q e = absurd (cc)
inside_stepped opening block (Route r) q e = absurd (cc)
inside_stepped opening block (Via v) q e = absurd (cc)
inside_stepped opening block Done q e = absurd (cc)

none_stepped : (opening : Opening) (line : Line) (q : Progress) → after_none opening line ≡ Some q → Stepped (progress.NoneFound opening) line q
none_stepped opening Version q e = absurd (cc)
none_stepped opening (Counts n m) q e = absurd (cc)
none_stepped opening (Asks query) q e = absurd (cc)
none_stepped opening (Heads kind root radius) q e = absurd (cc)
none_stepped opening (Row r) q e = absurd (cc)
none_stepped opening End q e = absurd (cc)
none_stepped opening None_found q e = absurd (cc)
none_stepped opening (Optimum length arcs) q e = absurd (cc)
none_stepped opening (Route r) q e = absurd (cc)
none_stepped opening (Via v) q e = absurd (cc)
none_stepped opening Done q e =
    let made : Progress = progress.Whole (record { vertices = opening.vertices; arcs = opening.arcs; query = opening.query; blocks = opening.blocks; finding = Nothing }) in
    stepped (progress.NoneFound opening) Done made q (same_Some made q e) (sym (append_assoc (opening_lines opening) (None_found ∷ []) (Done ∷ []))) (λ h. h)

optimum_stepped : (opening : Opening) (a : Alternatives) (line : Line) (q : Progress) → after_optimum opening a line ≡ Some q → Stepped (progress.Found opening a) line q
optimum_stepped opening a Version q e = absurd (cc)
optimum_stepped opening a (Counts n m) q e = absurd (cc)
optimum_stepped opening a (Asks query) q e = absurd (cc)
optimum_stepped opening a (Heads kind root radius) q e = absurd (cc)
optimum_stepped opening a (Row r) q e = absurd (cc)
optimum_stepped opening a End q e = absurd (cc)
optimum_stepped opening a None_found q e = absurd (cc)
optimum_stepped opening a (Optimum length arcs) q e = absurd (cc)
optimum_stepped opening a (Route r) q e =
    let made : Progress = progress.Found opening (record a { routes = a.routes ++ r ∷ [] }) in
    let some = before_vias_some a.vias made q e in
    stepped (progress.Found opening a) (Route r) made q some.1 (route_lines-push (opening_lines opening) (Optimum a.length a.arcs) a.routes a.vias r some.0) (λ h. h)
optimum_stepped opening a (Via v) q e =
    let made : Progress = progress.Found opening (record a { vias = a.vias ++ v ∷ [] }) in
    stepped (progress.Found opening a) (Via v) made q (same_Some made q e) (via_lines-push (opening_lines opening) (Optimum a.length a.arcs) a.routes a.vias v) (λ h. h)
optimum_stepped opening a Done q e =
    let made : Progress = progress.Whole (record { vertices = opening.vertices; arcs = opening.arcs; query = opening.query; blocks = opening.blocks; finding = Found a.length a.arcs a.routes a.vias }) in
    stepped (progress.Found opening a) Done made q (same_Some made q e) (sym (append_assoc (opening_lines opening) (Optimum a.length a.arcs ∷ (map Route a.routes ++ map Via a.vias)) (Done ∷ []))) (λ h. h)

pub step_stepped : (p : Progress) (line : Line) (q : Progress) → step p line ≡ Some q → Stepped p line q
step_stepped progress.Start line q e = start_stepped line q e
step_stepped progress.Named line q e = version_stepped line q e
step_stepped (progress.Counted a b) line q e = counts_stepped a b line q e
step_stepped (progress.Between opening) line q e = between_stepped opening line q e
step_stepped (progress.Inside opening block) line q e = inside_stepped opening block line q e
step_stepped (progress.NoneFound opening) line q e = none_stepped opening line q e
step_stepped (progress.Found opening a) line q e = optimum_stepped opening a line q e
step_stepped (progress.Whole c) line q e = absurd (cc)

-- ---- each certificate's lines run through

after_some : {A B : Type 0} (x : A) (next : A → Option B) (o : Option A) → o ≡ Some x → (o >>= next) ≡ next x
after_some x next o e = ap (λ (p : Option _). p >>= next) e

run-append : (xs ys : List Line) (p : Progress) → run p (xs ++ ys) ≡ (run p xs >>= λ q. run q ys)
unfolding run
run-append [] ys p = refl
run-append (x ∷ xs) ys p =
    elim (step p x) as (λ o. (o >>= λ q. run q (xs ++ ys)) ≡ ((o >>= λ q. run q xs) >>= λ q. run q ys)) [ None ↦ refl | Some q ↦ run-append xs ys q ]

-- these lines, and those after them
run-on : (xs ys : List Line) (p q : Progress) → run p xs ≡ Some q → run p (xs ++ ys) ≡ run q ys
run-on xs ys p q e = run-append xs ys p ∙ after_some q (λ r. run r ys) (run p xs) e

rows_run : (opening : Opening) (rows : List BlockRow) (block : Block) → run (progress.Inside opening block) (map Row rows) ≡ Some (progress.Inside opening (record block { rows = block.rows ++ rows }))
unfolding run
rows_run opening [] block = ap (λ (rs : List BlockRow). Some (progress.Inside opening (record block { rows = rs }))) (sym (append-nil block.rows))
rows_run opening (r ∷ rows) block =
    rows_run opening rows (record block { rows = block.rows ++ r ∷ [] })
    ∙ ap (λ (rs : List BlockRow). Some (progress.Inside opening (record block { rows = rs }))) (append_assoc block.rows (r ∷ []) rows)

block_run : (opening : Opening) (block : Block) → run (progress.Between opening) (block_lines block) ≡ Some (progress.Between (record opening { blocks = opening.blocks ++ block ∷ [] }))
unfolding run
block_run opening block = run-on (map Row block.rows) (End ∷ []) (progress.Inside opening (record block { rows = [] })) (progress.Inside opening block) (rows_run opening block.rows (record block { rows = [] }))

blocks_run : (blocks : List Block) (opening : Opening) → run (progress.Between opening) (blocks_lines blocks) ≡ Some (progress.Between (record opening { blocks = opening.blocks ++ blocks }))
unfolding run
blocks_run [] opening = ap (λ (bs : List Block). Some (progress.Between (record opening { blocks = bs }))) (sym (append-nil opening.blocks))
blocks_run (block ∷ blocks) opening =
    let next : Opening = record opening { blocks = opening.blocks ++ block ∷ [] } in
    ap (run (progress.Between opening)) (flat_map-cons block_lines block blocks)
    ∙ run-on (block_lines block) (blocks_lines blocks) (progress.Between opening) (progress.Between next) (block_run opening block)
    ∙ blocks_run blocks next
    ∙ ap (λ (bs : List Block). Some (progress.Between (record opening { blocks = bs }))) (append_assoc opening.blocks (block ∷ []) blocks)

routes_run : (opening : Opening) (length : ℕ) (arcs : List ℕ) (routes before : List CertRoute) → run (progress.Found opening (record { length = length; arcs = arcs; routes = before; vias = [] })) (map Route routes) ≡ Some (progress.Found opening (record { length = length; arcs = arcs; routes = before ++ routes; vias = [] }))
unfolding run
routes_run opening length arcs [] before = ap (λ (rs : List CertRoute). Some (progress.Found opening (record { length = length; arcs = arcs; routes = rs; vias = [] }))) (sym (append-nil before))
routes_run opening length arcs (r ∷ routes) before =
    routes_run opening length arcs routes (before ++ r ∷ [])
    ∙ ap (λ (rs : List CertRoute). Some (progress.Found opening (record { length = length; arcs = arcs; routes = rs; vias = [] }))) (append_assoc before (r ∷ []) routes)

vias_run : (opening : Opening) (vias : List ViaRow) (a : Alternatives) → run (progress.Found opening a) (map Via vias) ≡ Some (progress.Found opening (record a { vias = a.vias ++ vias }))
unfolding run
vias_run opening [] a = ap (λ (vs : List ViaRow). Some (progress.Found opening (record a { vias = vs }))) (sym (append-nil a.vias))
vias_run opening (v ∷ vias) a =
    vias_run opening vias (record a { vias = a.vias ++ v ∷ [] })
    ∙ ap (λ (vs : List ViaRow). Some (progress.Found opening (record a { vias = vs }))) (append_assoc a.vias (v ∷ []) vias)

after_block-some : (blocks : List Block) (p : Progress) → 0 < length blocks → after_block blocks p ≡ Some p
after_block-some [] p some = absurd (omega arith)
after_block-some (block ∷ blocks) p some = refl

abbrev certificate_of : Opening → Finding → Certificate
certificate_of opening finding = record { vertices = opening.vertices; arcs = opening.arcs; query = opening.query; blocks = opening.blocks; finding = finding }

finding_run : (opening : Opening) (finding : Finding) → 0 < length opening.blocks → run (progress.Between opening) (finding_lines finding ++ Done ∷ []) ≡ Some (progress.Whole (certificate_of opening finding))
unfolding run
finding_run opening Nothing some = after_some (progress.NoneFound opening) (λ q. run q (Done ∷ [])) _ (after_block-some opening.blocks (progress.NoneFound opening) some)
finding_run opening (Found length arcs routes vias) some =
    let none : Alternatives = record { length = length; arcs = arcs; routes = []; vias = [] } in
    let all : Alternatives = record { length = length; arcs = arcs; routes = routes; vias = [] } in
    after_some (progress.Found opening none) (λ q. run q ((map Route routes ++ map Via vias) ++ Done ∷ [])) _ (after_block-some opening.blocks (progress.Found opening none) some)
    ∙ run-append (map Route routes ++ map Via vias) (Done ∷ []) (progress.Found opening none)
    ∙ after_some (progress.Found opening (record all { vias = vias })) (λ q. run q (Done ∷ [])) _
    (run-on (map Route routes) (map Via vias) (progress.Found opening none) (progress.Found opening all) (routes_run opening length arcs routes []) ∙ vias_run opening vias all)

pub certificate_run : (c : Certificate) → 0 < length c.blocks → run progress.Start (lines_of c) ≡ Some (progress.Whole c)
unfolding run
certificate_run c some =
    let none : Opening = record { vertices = c.vertices; arcs = c.arcs; query = c.query; blocks = [] } in
    let all : Opening = record { vertices = c.vertices; arcs = c.arcs; query = c.query; blocks = c.blocks } in
    run-on (blocks_lines c.blocks) (finding_lines c.finding ++ Done ∷ []) (progress.Between none) (progress.Between all) (blocks_run c.blocks none)
    ∙ finding_run all c.finding some
