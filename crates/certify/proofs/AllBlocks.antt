-- The blocks of a certificate pass their checks, and are found.
--   IsOutside k root bs   no block of the list has the direction and the root
--   AreBlocks g q bound bs source target starts   the blocks for a query, from the source, to the target, and from starts
use Rattle.std.proofs.Common.{◌≡◌, ℕ, ◌+◌, ◌<◌, ◌≤◌, ◌++◌, List, [], ◌∷◌, length, Option, Some, None, refl, sym, ap, ◌∙◌, subst, map, arith, ⊎_elim}
use Rattle.std.specs.List.{Contains}
use Rattle.std.specs.List.Sorted.{IsStrictlyIncreasing}
use Rattle.std.proofs.lemmas.List.{length-append}
use Rattle.std.proofs.lemmas.List.Elements.{All-contains, Contains-push_cases}
use Rattle.road_model.specs.declared.answer.Query.{Query}
use Rattle.road_model.specs.declared.answer.Route.{Route}
use Rattle.road_model.specs.Graph.{Graph, IsGraph, IsVertex}
use Rattle.road_model.specs.Walk.{IsWalk}
use Rattle.road_model.specs.Places.{trail_of, vertex_at}
use Rattle.road_model.specs.Answers.{IsRoute, IsListing}
use Rattle.road_model.proofs.Walks.{IsWalk-inside}
use Rattle.road_model.proofs.Parts.{Parted, parted, place_after}
use Rattle.canonical_trees.proofs.ThroughVertex.{via_walk}
use Rattle.certificate_text.specs.declared.certificate.BlockKind.{BlockKind}
use Rattle.certificate_text.specs.declared.certificate.BlockKind.TheVariants as kind
use Rattle.certificate_text.specs.declared.certificate.Block.{Block}
use Rattle.recheck.specs.Rows.{block_of}
use Rattle.recheck.specs.Checks.{Checks, done, FindsFirst, IsQuery, block_checks, blocks_checks}
use Rattle.recheck.proofs.Firsts.{block_split}
use Rattle.recheck.proofs.RowLookups.{IsBlockOf, contains_first, contains_later, contains_cases, none_contained, block_of_first, block_of_later, block_of_none}
use Rattle.certify.specs.Written.{IsStart, IsStartBlock, AreStarts, IsTreeBlock}
use Rattle.certify.proofs.TreeBlocks.{tree_block_passes}
use Rattle.certify.proofs.RisingLists.{increasing_tail, increasing_first}

abbrev pub IsOutside : BlockKind → ℕ → List Block → Type 0
IsOutside k root bs = (b : Block) → Contains bs b → IsBlockOf k root b → ⊥

abbrev pub roots_of : List Block → List ℕ
roots_of bs = map (λ (b : Block). b.root) bs

not_to_from : {P : Type 0} (b : Block) → b.kind ≡ kind.To → b.kind ≡ kind.From → P
not_to_from b to from = absurd (let e : kind.To ≡ kind.From = sym to ∙ from in cc)

-- each vertex of a walk is one of the graph
pub place_inside : (g : Graph) (p : List ℕ) (u v i : ℕ) → IsGraph g → IsVertex g.vertices u → IsWalk g u p v → i ≤ length p → IsVertex g.vertices (vertex_at (trail_of g u p) i)
place_inside g p u v i sound inside walk low =
    let first : vertex_at (trail_of g u p) 0 ≡ u = place_after g [] p u u refl in
    let part : Parted g u p 0 i = parted g u v p 0 i walk (omega arith) low in
    IsWalk-inside g part.part (vertex_at (trail_of g u p) 0) (vertex_at (trail_of g u p) i) sound (subst (λ (x : ℕ). IsVertex g.vertices x) (sym first) inside) part.walk

pub route_in_listing : (g : Graph) (q : Query) (optimum : List ℕ) (others : List Route) (r : Route) → IsListing g q optimum others → Contains others r → IsRoute g q optimum r
route_in_listing g q optimum others r listing there = All-contains (IsRoute g q optimum) others r listing.each there

pub walk_of_route : (g : Graph) (q : Query) (optimum : List ℕ) (r : Route) → IsRoute g q optimum r → IsWalk g q.from r.arcs q.to
walk_of_route g q optimum r h = via_walk g q.from q.to h.alternative.via r.arcs h.alternative.through

start_inside : (g : Graph) (q : Query) (optimum : List ℕ) (others : List Route) (x k : ℕ) → IsGraph g → IsQuery g q → IsListing g q optimum others → IsStart g q others x k → IsVertex g.vertices x
start_inside g q optimum others x k sound asks listing h =
    let is : IsRoute g q optimum h.route = route_in_listing g q optimum others h.route listing h.listed in
    let low : h.place ≤ length h.route.arcs = rw h.joined (omega (arith, h.before, length-append h.prefix h.back)) in
    subst (λ (v : ℕ). IsVertex g.vertices v) h.is (place_inside g h.route.arcs q.from q.to h.place sound asks.from (walk_of_route g q optimum h.route is) low)

outside_push : (k : BlockKind) (root : ℕ) (bs : List Block) (b : Block) → IsOutside k root bs → (IsBlockOf k root b → ⊥) → IsOutside k root (bs ++ b ∷ [])
outside_push k root bs b none other x there is =
    ⊎_elim
    (λ (early : Contains bs x). none x early is)
    (λ (here : b ≡ x). other (subst (λ (y : Block). IsBlockOf k root y) (sym here) is))
    (Contains-push_cases bs b x there)

pub starts_pass : (g : Graph) (q : Query) (optimum : List ℕ) (others : List Route) (earlier : List Block) (line : ℕ) (bs : List Block) → IsGraph g → IsQuery g q → IsListing g q optimum others
    → ((b : Block) → Contains bs b → IsStartBlock g q others b) → IsStrictlyIncreasing (roots_of bs) → ((b : Block) → Contains bs b → IsOutside kind.From b.root earlier) → FindsFirst (blocks_checks g earlier line bs (λ _. done)) None
starts_pass g q optimum others earlier line [] sound asks listing each rising new = tt
starts_pass g q optimum others earlier line (b ∷ bs) sound asks listing each rising new =
    let here : IsStartBlock g q others b = each b (contains_first b bs) in
    let inside : IsVertex g.vertices b.root = start_inside g q optimum others b.root here.radius sound asks listing here.start in
    let passes : FindsFirst (block_checks g earlier line b done) None =
    tree_block_passes g earlier line kind.From b.root (Some here.radius) b sound inside here.tree (block_of_none earlier kind.From b.root (new b (contains_first b bs))) in
    let later : FindsFirst (blocks_checks g (earlier ++ b ∷ []) (line + 2 + length b.rows) bs (λ _. done)) None =
    starts_pass g q optimum others (earlier ++ b ∷ []) (line + 2 + length b.rows) bs sound asks listing
    (λ x there. each x (contains_later b x bs there))
    (increasing_tail (λ (y : Block). y.root) b bs rising)
    (λ x there. outside_push kind.From x.root earlier b (new x (contains_later b x bs there))
    (λ (is : IsBlockOf kind.From x.root b).
    let less : b.root < x.root = increasing_first (λ (y : Block). y.root) b x bs rising there in
    let same : b.root ≡ x.root = is.of_root in
    omega arith)) in
    block_split g earlier line b (blocks_checks g (earlier ++ b ∷ []) (line + 2 + length b.rows) bs (λ _. done)) None passes later

-- a start's block is found among them
pub start_found : (k : BlockKind) (bs : List Block) (b : Block) → b.kind ≡ k → IsStrictlyIncreasing (roots_of bs) → Contains bs b → block_of bs k b.root ≡ Some b
start_found k [] b is rising there = none_contained b there
start_found k (x ∷ bs) b is rising there =
    ⊎_elim
    (λ (first : x ≡ b). subst (λ (y : Block). block_of (x ∷ bs) k y.root ≡ Some y) first
    (block_of_first x bs k x.root (record { of_kind = ap (λ (y : Block). y.kind) first ∙ is; of_root = refl })))
    (λ (later : Contains bs b).
    block_of_later x bs k b.root
    (λ (same : IsBlockOf k b.root x).
    let less : x.root < b.root = increasing_first (λ (y : Block). y.root) x b bs rising later in
    let roots : x.root ≡ b.root = same.of_root in
    omega arith)
    ∙ start_found k bs b is (increasing_tail (λ (y : Block). y.root) x bs rising) later)
    (contains_cases x b bs there)

pub record AreBlocks (g : Graph) (q : Query) (others : List Route) (bound : ℕ) (source target : Block) (starts : List Block) : Type 0 where
  pub is_source : IsTreeBlock g kind.From q.from (Some bound) source
  pub is_target : IsTreeBlock g kind.To q.to (Some bound) target
  pub are_starts : AreStarts g q others starts

pub source_found : (g : Graph) (q : Query) (radius : Option ℕ) (source : Block) (bs : List Block) → IsTreeBlock g kind.From q.from radius source → block_of (source ∷ bs) kind.From q.from ≡ Some source
source_found g q radius source bs t = block_of_first source bs kind.From q.from (record { of_kind = t.is_kind; of_root = t.is_root })

pub target_found : (g : Graph) (q : Query) (others : List Route) (bound : ℕ) (source target : Block) (starts : List Block) → AreBlocks g q others bound source target starts → block_of (source ∷ target ∷ starts) kind.To q.to ≡ Some target
target_found g q others bound source target starts h =
    block_of_later source (target ∷ starts) kind.To q.to (λ (is : IsBlockOf kind.To q.to source). not_to_from source is.of_kind h.is_source.is_kind)
    ∙ block_of_first target starts kind.To q.to (record { of_kind = h.is_target.is_kind; of_root = h.is_target.is_root })

pub start_found_after : (g : Graph) (q : Query) (others : List Route) (bound : ℕ) (source target : Block) (starts : List Block) (b : Block) → AreBlocks g q others bound source target starts → Contains starts b → block_of (source ∷ target ∷ starts) kind.From b.root ≡ Some b
start_found_after g q others bound source target starts b h there =
    let start : IsStartBlock g q others b = h.are_starts.each b there in
    block_of_later source (target ∷ starts) kind.From b.root (λ (is : IsBlockOf kind.From b.root source). absurd (start.other (sym is.of_root ∙ h.is_source.is_root)))
    ∙ block_of_later target starts kind.From b.root (λ (is : IsBlockOf kind.From b.root target). not_to_from target h.is_target.is_kind is.of_kind)
    ∙ start_found kind.From starts b start.tree.is_kind h.are_starts.rising there

not_first_two : (g : Graph) (q : Query) (others : List Route) (bound : ℕ) (source target : Block) (starts : List Block) (b : Block) → AreBlocks g q others bound source target starts → Contains starts b → IsOutside kind.From b.root (source ∷ target ∷ [])
not_first_two g q others bound source target starts b h there x at is =
    ⊎_elim
    (λ (first : source ≡ x).
    let root : source.root ≡ b.root = ap (λ (y : Block). y.root) first ∙ is.of_root in
    (h.are_starts.each b there).other (sym root ∙ h.is_source.is_root))
    (λ (later : Contains (target ∷ []) x).
    ⊎_elim
    (λ (second : target ≡ x). not_to_from target h.is_target.is_kind (ap (λ (y : Block). y.kind) second ∙ is.of_kind))
    (λ (none : Contains [] x). none_contained x none)
    (contains_cases target x [] later))
    (contains_cases source x (target ∷ []) at)

pub all_blocks_pass : (g : Graph) (q : Query) (optimum : List ℕ) (others : List Route) (bound line : ℕ) (source target : Block) (starts : List Block) → IsGraph g → IsQuery g q → IsListing g q optimum others → AreBlocks g q others bound source target starts → FindsFirst (blocks_checks g [] line (source ∷ target ∷ starts) (λ _. done)) None
all_blocks_pass g q optimum others bound line source target starts sound asks listing h =
    let next : ℕ = line + 2 + length source.rows in
    let rest : Checks = blocks_checks g (source ∷ target ∷ []) (next + 2 + length target.rows) starts (λ _. done) in
    let one : FindsFirst (block_checks g [] line source done) None = tree_block_passes g [] line kind.From q.from (Some bound) source sound asks.from h.is_source refl in
    let new : block_of (source ∷ []) kind.To q.to ≡ None =
    block_of_later source [] kind.To q.to (λ (is : IsBlockOf kind.To q.to source). not_to_from source is.of_kind h.is_source.is_kind) in
    let two : FindsFirst (block_checks g (source ∷ []) next target done) None =
    tree_block_passes g (source ∷ []) next kind.To q.to (Some bound) target sound asks.to h.is_target new in
    let others_pass : FindsFirst rest None =
    starts_pass g q optimum others (source ∷ target ∷ []) (next + 2 + length target.rows) starts sound asks listing h.are_starts.each h.are_starts.rising
    (λ b there. not_first_two g q others bound source target starts b h there) in
    block_split g [] line source (block_checks g (source ∷ []) next target rest) None one
    (block_split g (source ∷ []) next target rest None two others_pass)
