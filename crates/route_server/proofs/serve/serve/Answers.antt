use Rattle.std.proofs.Common.{refl, ap, arith, ◌∙◌}
use Rattle.route_server.specs.declared.serve.Served.TheVariants as served
use Rattle.route_server.specs.Sessions.{SessionState, state_of}
use Rattle.route_server.proofs.ReadingLemmas.{reads_start, reads_more, reads_over}
use Rattle.route_server.proofs.SendingLemmas.{serves_over}
use Rattle.route_server.proofs.ServingLemmas.{runs_start, runs_more, ends_unread, ends_quit, ends_more_fault, ends_more_memory, ends_last, ends_last_quit, ends_last_fault, ends_last_memory, ends_end, ends_over, ends_failed}
use Rattle.route_server.proofs.serve.serve.Goals as goal

pub returns-in_default-clause-stops : goal.returns-in_default-clause-stops
returns-in_default-clause-stops g c = ends_unread (g.V.Version.base c.args.version) _ _

pub returns-in_default-new-clause-stops : goal.returns-in_default-new-clause-stops
returns-in_default-new-clause-stops g c = ends_unread (g.V.Version.base c.args.version) _ _

pub lines-init : goal.lines-init
lines-init g c = (
  c.in-Ok-new.ensures.limit,
  runs_start (g.V.Version.base c.args.version) (state_of c.in-Ok.session) c.in-Ok-new.reader _ _ (ap state_of c.in-Ok.ensures) c.in-Ok-new.ensures,
  omega arith,
  omega arith,
  ap (λ (s : SessionState). s.base) c.in-Ok.ensures,
  reads_start c.in-Ok-new.reader _ c.in-Ok-new.ensures,
  refl,
  refl,
)

pub lines-preserved : goal.lines-preserved
lines-preserved g c = (
  c.in-More.ensures.longest,
  runs_more (g.V.Version.base c.args.version) (state_of c.lines.session) (state_of c.serve_one.new.session) c.lines.reader c.next_line.new.reader c.in-More.asked _ _ _ _ _ _ c.lines.invariant.1 c.in-More.ensures.goes (serves_over _ _ (state_of c.lines.session) (state_of c.serve_one.new.session) c.in-More.asked _ _ served.Written c.lines.invariant.4 c.in-Written.ensures.serves),
  omega (arith, c.lines.invariant.2, c.in-More.ensures.count),
  omega (arith, c.lines.invariant.3, c.in-Written.ensures.count),
  c.in-Written.ensures.base ∙ c.lines.invariant.4,
  reads_more c.lines.reader c.next_line.new.reader c.in-More.asked _ _ _ (c.in-Written.ensures.unquit refl) c.lines.invariant.5 c.in-More.ensures.goes,
  c.in-More.ensures.quiet (λ e. cc) ∙ c.lines.invariant.6,
  c.in-Written.ensures.quiet (λ e. cc) ∙ c.lines.invariant.7,
)

pub returns-in-Quit-clause-stops : goal.returns-in-Quit-clause-stops
returns-in-Quit-clause-stops g c =
    ends_quit (g.V.Version.base c.args.version) (state_of c.lines.session) (state_of c.serve_one.new.session) c.lines.reader c.next_line.new.reader c.in-More.asked _ _ _ _ _ _ c.lines.invariant.1 c.in-More.ensures.goes (serves_over _ _ (state_of c.lines.session) (state_of c.serve_one.new.session) c.in-More.asked _ _ served.Quit c.lines.invariant.4 c.in-Quit.ensures.serves)

pub returns-in-WriteFault-clause-stops : goal.returns-in-WriteFault-clause-stops
returns-in-WriteFault-clause-stops g c =
    ends_more_fault (g.V.Version.base c.args.version) (state_of c.lines.session) (state_of c.serve_one.new.session) c.lines.reader c.next_line.new.reader c.in-More.asked _ _ _ _ _ _ c.lines.invariant.1 c.in-More.ensures.goes (serves_over _ _ (state_of c.lines.session) (state_of c.serve_one.new.session) c.in-More.asked _ _ served.WriteFault c.lines.invariant.4 c.in-WriteFault.ensures.serves)

pub returns-in-NoMemory-clause-stops : goal.returns-in-NoMemory-clause-stops
returns-in-NoMemory-clause-stops g c =
    ends_more_memory (g.V.Version.base c.args.version) (state_of c.lines.session) (state_of c.serve_one.new.session) c.lines.reader c.next_line.new.reader c.in-More.asked _ _ _ _ _ _ c.lines.invariant.1 c.in-More.ensures.goes (serves_over _ _ (state_of c.lines.session) (state_of c.serve_one.new.session) c.in-More.asked _ _ served.NoMemory c.lines.invariant.4 c.in-NoMemory.ensures.serves)

pub returns-in-End-clause-stops : goal.returns-in-End-clause-stops
returns-in-End-clause-stops g c =
    ends_end (g.V.Version.base c.args.version) (state_of c.lines.session) (state_of c.lines.session) c.lines.reader c.next_line.new.reader _ _ _ _ _ c.lines.invariant.1 c.in-End.ensures.goes

pub returns-in-Over-clause-stops : goal.returns-in-Over-clause-stops
returns-in-Over-clause-stops g c =
    ends_over (g.V.Version.base c.args.version) (state_of c.lines.session) (state_of c.lines.session) c.lines.reader c.next_line.new.reader _ _ _ _ _ c.lines.invariant.1 c.in-Over.ensures.goes

pub returns-in-Failed-clause-stops : goal.returns-in-Failed-clause-stops
returns-in-Failed-clause-stops g c =
    ends_failed (g.V.Version.base c.args.version) (state_of c.lines.session) (state_of c.lines.session) c.lines.reader c.next_line.new.reader _ _ _ _ _ c.lines.invariant.1 c.in-Failed.ensures.goes

pub returns-in-Written-serve_one-clause-stops : goal.returns-in-Written-serve_one-clause-stops
returns-in-Written-serve_one-clause-stops g c =
    ends_last (g.V.Version.base c.args.version) (state_of c.lines.session) (state_of c.serve_one-in-Last.new.session) c.lines.reader c.next_line.new.reader c.in-Last.asked _ _ _ _ _ _ c.lines.invariant.1 c.in-Last.ensures.goes (serves_over _ _ (state_of c.lines.session) (state_of c.serve_one-in-Last.new.session) c.in-Last.asked _ _ served.Written c.lines.invariant.4 c.in-Written-serve_one.ensures.serves)

pub returns-in-Quit-serve_one-clause-stops : goal.returns-in-Quit-serve_one-clause-stops
returns-in-Quit-serve_one-clause-stops g c =
    ends_last_quit (g.V.Version.base c.args.version) (state_of c.lines.session) (state_of c.serve_one-in-Last.new.session) c.lines.reader c.next_line.new.reader c.in-Last.asked _ _ _ _ _ _ c.lines.invariant.1 c.in-Last.ensures.goes (serves_over _ _ (state_of c.lines.session) (state_of c.serve_one-in-Last.new.session) c.in-Last.asked _ _ served.Quit c.lines.invariant.4 c.in-Quit-serve_one.ensures.serves)

pub returns-in-WriteFault-serve_one-clause-stops : goal.returns-in-WriteFault-serve_one-clause-stops
returns-in-WriteFault-serve_one-clause-stops g c =
    ends_last_fault (g.V.Version.base c.args.version) (state_of c.lines.session) (state_of c.serve_one-in-Last.new.session) c.lines.reader c.next_line.new.reader c.in-Last.asked _ _ _ _ _ _ c.lines.invariant.1 c.in-Last.ensures.goes (serves_over _ _ (state_of c.lines.session) (state_of c.serve_one-in-Last.new.session) c.in-Last.asked _ _ served.WriteFault c.lines.invariant.4 c.in-WriteFault-serve_one.ensures.serves)

pub returns-in-NoMemory-serve_one-clause-stops : goal.returns-in-NoMemory-serve_one-clause-stops
returns-in-NoMemory-serve_one-clause-stops g c =
    ends_last_memory (g.V.Version.base c.args.version) (state_of c.lines.session) (state_of c.serve_one-in-Last.new.session) c.lines.reader c.next_line.new.reader c.in-Last.asked _ _ _ _ _ _ c.lines.invariant.1 c.in-Last.ensures.goes (serves_over _ _ (state_of c.lines.session) (state_of c.serve_one-in-Last.new.session) c.in-Last.asked _ _ served.NoMemory c.lines.invariant.4 c.in-NoMemory-serve_one.ensures.serves)

pub returns-in-Over-clause-long : goal.returns-in-Over-clause-long
returns-in-Over-clause-long g c e =
    reads_over c.lines.reader c.next_line.new.reader _ _ _ c.lines.invariant.5 c.in-Over.ensures.goes
