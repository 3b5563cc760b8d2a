use Rattle.std.proofs.Common.{[], ◌∷◌}
use Rattle.line_front.specs.Replies.{error_text}
use Rattle.road_text.proofs.PieceLemmas.{Appends_both, Appends_failed, Appends_exit}
use Rattle.line_front.proofs.replies.put_error.Goals as goal

pub returns-in_err-put : goal.returns-in_err-put
returns-in_err-put g c = Appends_exit _ c.from_residual.ensures.0 (Appends_failed (10 ∷ []) (Appends_failed (error_text c.args.kind) c.in_err-put.ensures))

pub returns-in_err-put_kind : goal.returns-in_err-put_kind
returns-in_err-put_kind g c = Appends_exit _ c.from_residual-in_err-put_kind.ensures.0 (Appends_failed (10 ∷ []) (Appends_both c.in_ok-put.ensures c.in_err-put_kind.ensures))

pub returns : goal.returns
returns g c = Appends_both (Appends_both c.in_ok-put.ensures c.in_ok-put_kind.ensures) c.put-2.ensures
