use Rattle.std.proofs.Common.{◌≡◌, ℕ, ◌+◌, List, ◌++◌, length, get_or, sym, ap, ◌∙◌, arith}
use Rattle.road_io.specs.declared.writing.Put.TheVariants.{Done}
use Rattle.road_io.proofs.SinkLemmas.{Writes_both}
use Rattle.road_model.specs.declared.rows.ArcRow.{ArcRow}
use Rattle.dimacs_reader.specs.Text.{row_text}
use Rattle.road_io.specs.Buffers.{pending}
use Rattle.dimacs_reader.proofs.TextLemmas.{gr_text-graph_text}
use Rattle.dimacs_reader.proofs.WriteLemmas.{text_upto, text_upto-more, gathered_more, Writes-whole, Writes-cut}
use Rattle.dimacs_reader.proofs.write.write_graph.Goals as goal

pub returns-in-Failed-clause-writes : goal.returns-in-Failed-clause-writes
returns-in-Failed-clause-writes g c =
    let so_far = c.loop-row.invariant.1 in
    Writes-cut c.args.graph.now c.loop-row.row-index c.loop-row.invariant.0 (pending c.loop-row.text) _ _ _ so_far.parts so_far.written c.in-Failed.ensures.sent

pub returns-in-Failed-clause-read_again : goal.returns-in-Failed-clause-read_again
returns-in-Failed-clause-read_again g c = gr_text-graph_text c.args.graph.now c.vertices.ensures.limits

pub loop-row-preserved : goal.loop-row-preserved
loop-row-preserved g c =
    let graph = c.args.graph.now in
    let i : ℕ = c.loop-row.row-index in
    let row : ArcRow = c.row-item.result in
    let so_far = c.loop-row.invariant.1 in
    let sent : List ℕ = c.loop-row.invariant.0 in
    let later = c.in-Done.ensures.sent in
    let more : text_upto graph (i + 1) ≡ text_upto graph i ++ row_text row = text_upto-more graph i row
    (omega (arith, c.loop-row-test.true, ap length c.arcs-row-items.ensures.rows))
    (ap (λ (rows : List ArcRow). get_or rows i row) (sym c.arcs-row-items.ensures.rows) ∙ sym c.row-item.is) in (
      sent ++ later.0,
      record {
        parts = gathered_more sent later.0 (pending c.loop-row.text) (pending c.make_room.new.self) (row_text row) (text_upto graph i) (pending c.push_row.new.text) so_far.parts later.1 c.push_row.ensures ∙ sym more;
        written = Writes_both sent later.0 _ _ _ Done so_far.written later.2;
        quiet = c.in-Done.ensures.quiet (λ e. cc) ∙ so_far.quiet;
      },
    )

pub returns-clause-writes : goal.returns-clause-writes
returns-clause-writes g c =
    let so_far = c.loop-row.invariant.1 in
    Writes-whole c.args.graph.now c.loop-row.row-index c.loop-row.invariant.0 (pending c.loop-row.text) _ _ _ c.send.result (omega (arith, c.loop-row-test.false, ap length c.arcs-row-items.ensures.rows)) so_far.parts so_far.written c.send.ensures.writes

pub returns-clause-read_again : goal.returns-clause-read_again
returns-clause-read_again g c = gr_text-graph_text c.args.graph.now c.vertices.ensures.limits
