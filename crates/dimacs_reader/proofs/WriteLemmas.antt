-- The canonical text, as far as it was gathered.
use Rattle.std.proofs.Common.{◌≡◌, ℕ, ◌+◌, ◌<◌, ◌≤◌, List, [], ◌∷◌, ◌++◌, length, get_or, drop, take, Option, sym, ap, subst, ◌∙◌, append_assoc}
use Rattle.std.specs.List.{flat_map}
use Rattle.std.proofs.lemmas.Grind.{flat_map-append}
use Rattle.std.proofs.lemmas.List.{take-append-drop, take_all, take_more, flat_map_more}
use Rattle.road_io.specs.Told.{Told}
use Rattle.road_io.specs.Sink.{Writes}
use Rattle.road_io.specs.declared.writing.Put.{Put}
use Rattle.road_io.specs.declared.writing.Put.TheVariants.{Done, Failed}
use Rattle.road_io.proofs.SinkLemmas.{Writes_both, Writes_failed}
use Rattle.road_model.specs.declared.rows.ArcRow.{ArcRow}
use Rattle.road_model.specs.Graph.{Graph}
use Rattle.dimacs_reader.specs.Text.{problem_text, row_text, graph_text}

-- the problem line and the first i rows
abbrev pub text_upto : Graph → ℕ → List ℕ
text_upto g i = problem_text g.vertices (length g.arcs) ++ flat_map row_text (take i g.arcs)

graph_text-parts : (g : Graph) (i : ℕ) → graph_text g ≡ text_upto g i ++ flat_map row_text (drop i g.arcs)
unfolding graph_text
graph_text-parts g i =
    ap (λ (rows : List ArcRow). problem_text g.vertices (length g.arcs) ++ flat_map row_text rows) (sym (take-append-drop i g.arcs))
    ∙ ap (λ (t : List ℕ). problem_text g.vertices (length g.arcs) ++ t) (flat_map-append row_text (take i g.arcs) (drop i g.arcs))
    ∙ sym (append_assoc (problem_text g.vertices (length g.arcs)) (flat_map row_text (take i g.arcs)) (flat_map row_text (drop i g.arcs)))

text_upto-all : (g : Graph) (i : ℕ) → length g.arcs ≤ i → text_upto g i ≡ graph_text g
unfolding graph_text
text_upto-all g i past = ap (λ (rows : List ArcRow). problem_text g.vertices (length g.arcs) ++ flat_map row_text rows) (take_all i g.arcs past)

pub text_upto-more : (g : Graph) (i : ℕ) (row : ArcRow) → i < length g.arcs → get_or g.arcs i row ≡ row → text_upto g (i + 1) ≡ text_upto g i ++ row_text row
text_upto-more g i row lt e =
    ap (λ (rows : List ArcRow). problem_text g.vertices (length g.arcs) ++ flat_map row_text rows) (take_more g.arcs i row lt ∙ ap (λ (r : ArcRow). take i g.arcs ++ r ∷ []) e)
    ∙ sym (flat_map_more row_text (problem_text g.vertices (length g.arcs)) (take i g.arcs) row)

-- one row more is gathered, after what was sent by then
pub gathered_more : (sent later before after line upto now : List ℕ) → sent ++ before ≡ upto → before ≡ later ++ after → now ≡ after ++ line → (sent ++ later) ++ now ≡ upto ++ line
gathered_more sent later before after line upto now e f h =
    ap (λ (t : List ℕ). (sent ++ later) ++ t) h ∙ sym (append_assoc (sent ++ later) after line)
    ∙ ap (λ (t : List ℕ). t ++ line) (append_assoc sent later after ∙ ap (λ (t : List ℕ). sent ++ t) (sym f) ∙ e)

-- the rest is sent
pub Writes-whole : (g : Graph) (i : ℕ) (sent rest : List ℕ) (a b c : Option Told) (answer : Put) → length g.arcs ≤ i → sent ++ rest ≡ text_upto g i → Writes sent a b Done → Writes rest b c answer → Writes (graph_text g) a c answer
Writes-whole g i sent rest a b c answer past parts first second =
    subst (λ (t : List ℕ). Writes t a c answer) (parts ∙ text_upto-all g i past) (Writes_both sent rest a b c answer first second)

-- a write failed on the way
pub Writes-cut : (g : Graph) (i : ℕ) (sent rest : List ℕ) (a b c : Option Told) → sent ++ rest ≡ text_upto g i → Writes sent a b Done → Writes rest b c Failed → Writes (graph_text g) a c Failed
Writes-cut g i sent rest a b c parts first second =
    let cut = Writes_failed (sent ++ rest) (flat_map row_text (drop i g.arcs)) a c (Writes_both sent rest a b c Failed first second) in
    subst (λ (t : List ℕ). Writes t a c Failed) (ap (λ (t : List ℕ). t ++ flat_map row_text (drop i g.arcs)) parts ∙ sym (graph_text-parts g i)) cut
