-- A tree from each start.
use Rattle.std.proofs.Common.{◌≡◌, ℕ, ◌<◌, ◌≤◌, ◌+◌, List, [], ◌∷◌, ◌++◌, length, get_or, take, map, Some, Contains, All, refl, sym, ap, ◌∙◌, subst, arith}
use Rattle.std.specs.List.Sorted.{IsStrictlyIncreasing}
use Rattle.std.proofs.lemmas.List.{take_all, map_more, get_or-map, length-map, map-append}
use Rattle.std.proofs.lemmas.List.Elements.{All-nil, All-push, All-contains, Contains-get_or}
use Rattle.road_model.specs.declared.answer.Query.{Query}
use Rattle.road_model.specs.declared.answer.Route.{Route}
use Rattle.road_model.specs.Graph.{Graph, IsGraph, IsVertex}
use Rattle.canonical_trees.specs.Trees.{Trees}
use Rattle.certificate_text.specs.declared.certificate.BlockKind.TheVariants as kind
use Rattle.certificate_text.specs.declared.certificate.Block.{Block}
use Rattle.certify.specs.declared.starts.Start.{Start}
use Rattle.certify.specs.Written.{IsTreeBlock, IsStart, IsStartBlock, HasStart, AreStarts}
use Rattle.certify.specs.Starts.{IsStartOf, HasStartAt, AreStartsOf, IsKept, HasStartFrom, AreFarthest}
use Rattle.certify.proofs.RouteStarts.{start_vertex}

start_in : (g : Graph) (q : Query) (rs : List Route) (x k : ℕ) → IsStartOf g q.from rs x k → IsStart g q rs x k
start_in g q rs x k h =
    record {
      route = h.route;
      listed = h.listed;
      prefix = h.start.prefix;
      back = h.start.back;
      first = h.start.first;
      joined = h.start.joined;
      place = h.start.place;
      before = h.start.before;
      is = h.start.is;
      far = h.start.far;
    }

start_out : (g : Graph) (q : Query) (rs : List Route) (x k : ℕ) → IsStart g q rs x k → IsStartOf g q.from rs x k
start_out g q rs x k h =
    record {
      route = h.route;
      listed = h.listed;
      start = record {
        prefix = h.prefix;
        back = h.back;
        first = h.first;
        joined = h.joined;
        place = h.place;
        before = h.before;
        is = h.is;
        far = h.far;
      };
    }

-- the starts that trees are made of
pub record AreRoots (g : Graph) (q : Query) (rs : List Route) (fs : List Start) : Type 0 where
  pub sound : IsGraph g
  pub inside : IsVertex g.vertices q.from
  pub starts : List Start
  pub all : AreStartsOf g q.from rs starts
  pub farthest : AreFarthest starts q.from fs

pub are_roots : (g : Graph) (q : Query) (rs told : List Route) (ss fs kept : List Start) → IsGraph g → IsVertex g.vertices q.from → told ≡ rs → AreStartsOf g q.from told ss → kept ≡ fs → AreFarthest ss q.from fs → AreRoots g q rs kept
are_roots g q rs told ss fs kept sound inside same all is far =
    record {
      sound = sound;
      inside = inside;
      starts = ss;
      all = subst (λ (l : List Route). AreStartsOf g q.from l ss) same all;
      farthest = subst (λ (l : List Start). AreFarthest ss q.from l) (sym is) far;
    }

abbrev pub pair_from : Graph → ℕ → ℕ → Trees
pair_from g v radius = record { graph = g; source = v; target = v; radius = Some radius }

pub tree_of_pair : (g : Graph) (v radius : ℕ) (ts : Trees) (b : Block) → ts ≡ pair_from g v radius → IsTreeBlock ts.graph kind.From ts.source ts.radius b → IsTreeBlock g kind.From v (Some radius) b
tree_of_pair g v radius ts b is tree = subst (λ (x : Trees). IsTreeBlock x.graph kind.From x.source x.radius b) is tree

pub root_vertex : (g : Graph) (q : Query) (rs : List Route) (fs : List Start) (f : Start) → AreRoots g q rs fs → Contains fs f → IsVertex g.vertices f.vertex
root_vertex g q rs fs f h there =
    let own : IsStartOf g q.from rs f.vertex f.rest = h.all.each f (h.farthest.each f there).listed in
    start_vertex g q.from own.route f.vertex f.rest h.sound h.inside own.start

start_block : (g : Graph) (q : Query) (rs : List Route) (fs : List Start) (f : Start) (b : Block) → AreRoots g q rs fs → Contains fs f → IsTreeBlock g kind.From f.vertex (Some f.rest) b → IsStartBlock g q rs b
start_block g q rs fs f b h there tree =
    let kept : IsKept h.starts q.from f = h.farthest.each f there in
    let root : b.root ≡ f.vertex = tree.is_root in
    record {
      other = (λ e. kept.other (sym root ∙ e));
      radius = f.rest;
      start = subst (λ (x : ℕ). IsStart g q rs x f.rest) (sym root) (start_in g q rs f.vertex f.rest (h.all.each f kept.listed));
      greatest = (λ k start.
          let has : HasStartAt h.starts b.root k = h.all.every b.root k (start_out g q rs b.root k start) in
          let most : has.start.rest ≤ f.rest = kept.greatest has.start has.listed (has.at ∙ root) in
          omega (arith, has.long));
      tree = subst (λ (x : ℕ). IsTreeBlock g kind.From x (Some f.rest) b) (sym root) tree;
    }

pub record AreTrees (g : Graph) (q : Query) (rs : List Route) (vs : List ℕ) (bs : List Block) : Type 0 where
  pub each : All (IsStartBlock g q rs) bs
  pub roots : map (λ (b : Block). b.root) bs ≡ vs

pub trees_none : (g : Graph) (q : Query) (rs : List Route) (fs : List Start) → AreTrees g q rs (map (λ (f : Start). f.vertex) (take 0 fs)) []
trees_none g q rs fs = record { each = All-nil (IsStartBlock g q rs); roots = refl }

pub trees_more : (g : Graph) (q : Query) (rs : List Route) (fs : List Start) (i : ℕ) (f : Start) (bs now : List Block) (b : Block) → AreRoots g q rs fs → i < length fs → f ≡ get_or fs i f → now ≡ bs ++ b ∷ [] → IsTreeBlock g kind.From f.vertex (Some f.rest) b →
    AreTrees g q rs (map (λ (x : Start). x.vertex) (take i fs)) bs → AreTrees g q rs (map (λ (x : Start). x.vertex) (take (i + 1) fs)) now
trees_more g q rs fs i f bs now b h lt is more tree before =
    subst (λ (l : List Block). AreTrees g q rs (map (λ (x : Start). x.vertex) (take (i + 1) fs)) l) (sym more)
    (record {
      each = All-push (IsStartBlock g q rs) bs b before.each (start_block g q rs fs f b h (i, lt, sym is) tree);
      roots = map-append (λ (x : Block). x.root) bs (b ∷ [])
          ∙ ap (λ (l : List ℕ). l ++ b.root ∷ []) before.roots
          ∙ ap (λ (n : ℕ). map (λ (x : Start). x.vertex) (take i fs) ++ n ∷ []) (tree.is_root ∙ ap (λ (x : Start). x.vertex) is)
          ∙ sym (map_more (λ (x : Start). x.vertex) fs i f lt);
    })

contains_vertex : (fs : List Start) (f : Start) → Contains fs f → Contains (map (λ (x : Start). x.vertex) fs) f.vertex
contains_vertex fs f there =
    let inside : there.0 < length fs = there.1 in
    (there.0, omega (arith, length-map fs (λ (x : Start). x.vertex)), get_or-map (λ (x : Start). x.vertex) fs there.0 f f.vertex inside ∙ ap (λ (x : Start). x.vertex) there.2)

has_block : (bs : List Block) (v : ℕ) → Contains (map (λ (b : Block). b.root) bs) v → HasStart bs v
has_block [] v there = absurd (let none : there.0 < 0 = there.1 in omega arith)
has_block (b ∷ bs) v there =
    let inside : there.0 < length (b ∷ bs) = omega (arith, there.1, length-map (b ∷ bs) (λ (x : Block). x.root)) in
    record {
      block = get_or (b ∷ bs) there.0 b;
      listed = Contains-get_or (b ∷ bs) there.0 b inside;
      root = sym (get_or-map (λ (x : Block). x.root) (b ∷ bs) there.0 b v inside) ∙ there.2;
    }

pub trees_all : (g : Graph) (q : Query) (rs : List Route) (fs : List Start) (i : ℕ) (bs : List Block) → AreRoots g q rs fs → length fs ≤ i → AreTrees g q rs (map (λ (x : Start). x.vertex) (take i fs)) bs → AreStarts g q rs bs
trees_all g q rs fs i bs h ge are =
    let roots : map (λ (b : Block). b.root) bs ≡ map (λ (x : Start). x.vertex) fs = are.roots ∙ ap (λ (l : List Start). map (λ (x : Start). x.vertex) l) (take_all i fs ge) in
    record {
      each = (λ b there. All-contains (IsStartBlock g q rs) bs b are.each there);
      every = (λ x k start other.
          let has : HasStartAt h.starts x k = h.all.every x k (start_out g q rs x k start) in
          let kept : HasStartFrom fs has.start.vertex = h.farthest.every has.start has.listed (λ e. other (sym has.at ∙ e)) in
          let there : Contains (map (λ (f : Start). f.vertex) fs) kept.start.vertex = contains_vertex fs kept.start kept.listed in
          has_block bs x (subst (λ (n : ℕ). Contains (map (λ (b : Block). b.root) bs) n) (kept.at ∙ has.at) (subst (λ (l : List ℕ). Contains l kept.start.vertex) (sym roots) there)));
      rising = subst (λ (l : List ℕ). IsStrictlyIncreasing l) (sym roots) h.farthest.rising;
    }
