-- The bytes that one line gets.
use Rattle.std.proofs.Common.{◌≡◌, ℕ, false, true, List, [], Option, refl, sym, ap, subst}
use Rattle.std.proofs.lemmas.List.{append-nil}
use Rattle.road_io.specs.Told.{Told, IfTold}
use Rattle.road_io.proofs.ToldLemmas.{IfTold_then, told_same}
use Rattle.road_model.specs.declared.answer.Plan.{Plan}
use Rattle.road_model.specs.declared.request.Reply.{Reply}
use Rattle.road_model.specs.Graph.{Graph}
use Rattle.desk_core.specs.States.{State}
use Rattle.line_front.specs.declared.requests.Parsed.{Parsed}
use Rattle.line_front.specs.declared.requests.Parsed.TheVariants as parsed
use Rattle.line_front.specs.Replies.{HasItems, reply_text}
use Rattle.route_server.specs.declared.serve.Served.{Served}
use Rattle.route_server.specs.declared.serve.Served.TheVariants as served
use Rattle.route_server.specs.Asking.{is_quit}
use Rattle.route_server.specs.Serving.{IsReply}
use Rattle.route_server.specs.Served.{Serves, SendsReply}

-- a line that says nothing
pub serves_nothing : (g : Graph) (state next : State) (asked : Parsed) (a : Option Told) → (asked ≡ parsed.Empty) × (next ≡ state) → IfTold a a (λ out now. Serves g state asked out now next served.Written)
serves_nothing g state next asked a e =
    told_same a _ (λ (out : List ℕ). record {
      unquit = ap is_quit e.0;
      bytes = [];
      reply = subst (λ (x : Parsed). IsReply g state x [] next) (sym e.0) (refl, e.1);
      is = sym (append-nil out);
    })

-- a line that ends the run
pub serves_quit : (g : Graph) (state next : State) (asked : Parsed) (a : Option Told) → is_quit asked ≡ true → IfTold a a (λ out now. Serves g state asked out now next served.Quit)
serves_quit g state next asked a e = told_same a _ (λ (out : List ℕ). record { quit = e; is = refl })

sent : (g : Graph) (state next : State) (asked : Parsed) (reply : Reply) (shown : Option Plan) (out now : List ℕ) (how : Served) → is_quit asked ≡ false → IsReply g state asked (reply_text reply shown) next → SendsReply reply shown out now how → Serves g state asked out now next how
sent g state next asked reply shown out now served.Written q r s = record { unquit = q; bytes = reply_text reply shown; reply = r; is = s }
sent g state next asked reply shown out now served.Quit q r s = absurd s
sent g state next asked reply shown out now served.WriteFault q r s =
    record { next = next; unquit = q; bytes = reply_text reply shown; reply = r; prefix = s.prefix; beyond = s.beyond; parts = s.parts; is = s.written }
sent g state next asked reply shown out now served.NoMemory q r s = s

-- a line that has a reply
pub serves_sent : (g : Graph) (state next : State) (asked : Parsed) (reply : Reply) (shown beside : Option Plan) (a b : Option Told) (how : Served) → beside ≡ shown → (is_quit asked ≡ false) × IsReply g state asked (reply_text reply shown) next × HasItems reply shown → IfTold a b (λ out now. SendsReply reply beside out now how) → IfTold a b (λ out now. Serves g state asked out now next how)
serves_sent g state next asked reply shown beside a b how e said h =
    IfTold_then a b _ _ (λ (out now : List ℕ) (s : SendsReply reply beside out now how).
    sent g state next asked reply shown out now how said.0 said.1 (subst (λ (x : Option Plan). SendsReply reply x out now how) e s)) h

-- the same graph, by another name
pub serves_over : (g h : Graph) (state next : State) (asked : Parsed) (a b : Option Told) (how : Served) → h ≡ g → IfTold a b (λ out now. Serves h state asked out now next how) → IfTold a b (λ out now. Serves g state asked out now next how)
serves_over g h state next asked a b how e k =
    subst (λ (x : Graph). IfTold a b (λ out now. Serves x state asked out now next how)) e k
