use Rattle.std.proofs.Common.{◌∙◌}
use Rattle.road_model.specs.Messages.{error_number}
use Rattle.line_front.specs.Replies.{spaced_text}
use Rattle.road_text.proofs.PieceLemmas.{Appends_both, Appends_failed, Appends_exit}
use Rattle.line_front.proofs.replies.put_kind.Goals as goal

pub returns-in_err-put : goal.returns-in_err-put
returns-in_err-put g c =
    Appends_exit _ c.from_residual.ensures.0 (Appends_failed (spaced_text (error_number c.args.kind)) (rw (c.as_bytes.ensures.value ∙ c.word.ensures) at c.in_err-put.ensures))

pub returns : goal.returns
returns g c =
    Appends_both (rw (c.as_bytes.ensures.value ∙ c.word.ensures) at c.in_ok-put.ensures) (rw c.number.ensures at c.put_spaced.ensures)
