use Rattle.route_server.specs.Sessions.{state_of}
use Rattle.route_server.proofs.SendingLemmas.{serves_sent}
use Rattle.route_server.proofs.serve.serve_one.Goals as goal

pub returns-in-Answered-clause-serves : goal.returns-in-Answered-clause-serves
returns-in-Answered-clause-serves g c =
    serves_sent c.args.session.now.base (state_of c.args.session.now) (state_of c.say.new.session) c.args.asked.now c.in-Answered.reply _ _ _ _ c.send.result c.shown.ensures c.in-Answered.ensures.said c.send.ensures.sends
