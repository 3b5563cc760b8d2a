use Rattle.std.proofs.Common.{refl, sym, ◌∙◌}
use Rattle.dimacs_reader.proofs.GrLemmas.{problem_in-nil, arcs_in-nil}
use Rattle.dimacs_reader.proofs.builder.Builder.new.Goals as goal

pub returns-clause-after : goal.returns-clause-after
returns-clause-after c = record { problem = sym problem_in-nil; arcs = c.new.ensures.items ∙ sym arcs_in-nil; count = refl }
