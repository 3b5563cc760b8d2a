use Rattle.std.proofs.Common.{length, ◌∙◌, sym, arith}
use Rattle.std.proofs.lemmas.List.{take_all}
use Rattle.road_text.proofs.LineLemmas.{without_return-return, without_return-plain, without_return-nil}
use Rattle.road_text.proofs.feeds.line_len.Goals as goal
use Rattle.road_text.proofs.feeds.line_len.Goals.{else-len-gt0-via-then-len-gt0+else-raw-len-eq13, else-len-gt0-via-else-len-gt0}

pub returns-then-raw-len-eq13-clause-value : goal.returns-then-raw-len-eq13-clause-value
returns-then-raw-len-eq13-clause-value c = sym (without_return-return c.args.raw.now c.if-raw-len-eq13.true)

pub returns-else-len-gt0-clause-value : goal.returns-else-len-gt0-clause-value
returns-else-len-gt0-clause-value c =
    take_all (length c.args.raw.now) c.args.raw.now (omega arith)
    ∙ sym (elim c.else-len-gt0.branch [
      | else-len-gt0-via-then-len-gt0+else-raw-len-eq13 w ↦ without_return-plain c.args.raw.now w.if-raw-len-eq13.false
      | else-len-gt0-via-else-len-gt0 w ↦ without_return-nil c.args.raw.now (omega arith)
    ])
