-- A run over request lines: what stands written after each, and how it may end.
use Rattle.std.proofs.Common.{◌≡◌, ℕ, false, List, [], ◌∷◌, ◌++◌, Option, None, refl, sym, ap, ◌∙◌, subst, append_assoc, inl, inr}
use Rattle.std.proofs.lemmas.List.{append-nil}
use Rattle.road_model.specs.Graph.{Graph}
use Rattle.road_io.specs.Told.{Told, IfTold}
use Rattle.road_io.proofs.ToldLemmas.{IfTold_then, IfTold_both, told_same}
use Rattle.road_text.specs.declared.line_reader.LineReader.{LineReader}
use Rattle.road_text.specs.Reader.{held, budget, IsFreshReader}
use Rattle.road_text.specs.Progress.{IsBeyond, IsRead, IsOver, IsBroken}
use Rattle.road_text.proofs.BeyondLemmas.{IsBeyond-fresh}
use Rattle.road_model.specs.declared.request.Reply.TheVariants as reply
use Rattle.desk_core.specs.States.{State}
use Rattle.desk_core.specs.Runs.{Turn, IsRun}
use Rattle.line_front.specs.declared.requests.Parsed.{Parsed}
use Rattle.line_front.specs.declared.requests.Parsed.TheVariants as parsed
use Rattle.line_front.specs.Replies.{reply_text}
use Rattle.route_server.specs.declared.input.NextLine.TheVariants as next
use Rattle.route_server.specs.declared.serve.Served.TheVariants as served
use Rattle.route_server.specs.declared.status.Status.{Status}
use Rattle.route_server.specs.declared.status.Status.TheVariants as status
use Rattle.route_server.specs.Asking.{asked_by, asked_in, is_quit, lines_within, most_input, NoQuit}
use Rattle.route_server.specs.Serving.{opening, IsReply, AreSaid, IsReplies, Written, WrittenPrefix, IsDone, IsStarved, Stops}
use Rattle.route_server.specs.Served.{IsServed, IsServedPrefix, IsQuit, Serves}
use Rattle.route_server.specs.Input.{IsAt, OneMore, OneLast, Goes}
use Rattle.route_server.proofs.AskingLemmas.{asked_in-nothing, asked_in-push, asked_in-cut, NoQuit-push, quits, within_short, within_beyond}

run_append : (g : Graph) (turns more : List Turn) (state mid last : State) → IsRun g state turns mid → IsRun g mid more last → IsRun g state (turns ++ more) last
run_append g [] more state mid last h k = subst (λ (s : State). IsRun g s more last) h k
run_append g (turn ∷ turns) more state mid last (next, step, run) k = (next, step, run_append g turns more next mid last run k)

said_append : (asked others : List Parsed) (turns more : List Turn) (bytes text : List ℕ) → AreSaid asked turns bytes → AreSaid others more text → AreSaid (asked ++ others) (turns ++ more) (bytes ++ text)
said_append [] others turns more bytes text h k =
    subst (λ (ts : List Turn). AreSaid others (ts ++ more) (bytes ++ text)) (sym h.0)
    (subst (λ (bs : List ℕ). AreSaid others more (bs ++ text)) (sym h.1) k)
said_append (parsed.Empty ∷ asked) others turns more bytes text h k = said_append asked others turns more bytes text h k
said_append (parsed.Request request ∷ asked) others turns more bytes text (later, rest, one, h) k = (
  later ++ more,
  rest ++ text,
  record {
    turn = one.turn;
    asks = one.asks;
    first = ap (λ (ts : List Turn). ts ++ more) one.first;
    text = ap (λ (bs : List ℕ). bs ++ text) one.text ∙ append_assoc (reply_text one.turn.reply one.turn.shown) rest text;
  },
  said_append asked others later more rest text h k,
)
said_append (parsed.Error kind ∷ asked) others turns more bytes text (rest, is, h) k = (
  rest ++ text,
  ap (λ (bs : List ℕ). bs ++ text) is ∙ append_assoc (reply_text (reply.Error kind) None) rest text,
  said_append asked others turns more rest text h k,
)

-- the reply to one line
reply_alone : (g : Graph) (state next : State) (one : Parsed) (bytes : List ℕ) → IsReply g state one bytes next → IsReplies g state (one ∷ []) bytes next
reply_alone g state next parsed.Empty bytes h = record { turns = []; run = h.1; said = (refl, h.0) }
reply_alone g state next (parsed.Request request) bytes h = record {
  turns = record { request = request; reply = h.reply; shown = h.shown } ∷ [];
  run = (next, h.is_step, refl);
  said = (
    [],
    [],
    record {
      turn = record { request = request; reply = h.reply; shown = h.shown };
      asks = refl;
      first = refl;
      text = h.is ∙ sym (append-nil (reply_text h.reply h.shown));
    },
    (refl, refl),
  );
}
reply_alone g state next (parsed.Error kind) bytes h =
    record { turns = []; run = h.1; said = ([], h.0 ∙ sym (append-nil (reply_text (reply.Error kind) None)), (refl, refl)) }

replies_append : (g : Graph) (state mid last : State) (asked more : List Parsed) (bytes text : List ℕ) → IsReplies g state asked bytes mid → IsReplies g mid more text last → IsReplies g state (asked ++ more) (bytes ++ text) last
replies_append g state mid last asked more bytes text h k = record {
  turns = h.turns ++ k.turns;
  run = run_append g h.turns k.turns state mid last h.run k.run;
  said = said_append asked more h.turns k.turns bytes text h.said k.said;
}

-- the replies to one line more
replies_push : (g : Graph) (mid last : State) (before : List (List ℕ)) (line : List ℕ) (one : Parsed) (bytes reply : List ℕ) → one ≡ asked_by line → NoQuit before → is_quit one ≡ false → IsReplies g opening (asked_in before) bytes mid → IsReply g mid one reply last → IsReplies g opening (asked_in (before ++ line ∷ [])) (bytes ++ reply) last
replies_push g mid last before line one bytes reply e h q r k =
    subst (λ (x : List Parsed). IsReplies g opening x (bytes ++ reply) last) (sym (asked_in-push before line h (ap is_quit (sym e) ∙ q)))
    (replies_append g opening mid last (asked_in before) (asked_by line ∷ []) bytes reply r
    (reply_alone g mid last (asked_by line) reply (subst (λ (x : Parsed). IsReply g mid x reply last) e k)))

-- one line more has its reply
written_push : (g : Graph) (state next : State) (before : List (List ℕ)) (line : List ℕ) (asked : Parsed) (out mid now : List ℕ) → asked ≡ asked_by line → NoQuit before → Written g before out mid state → IsServed g state asked mid now next → Written g (before ++ line ∷ []) out now next
written_push g state next before line asked out mid now e h w s = record {
  bytes = w.bytes ++ s.bytes;
  replies = replies_push g state next before line asked w.bytes s.bytes e h s.unquit w.replies s.reply;
  is = s.is ∙ (ap (λ (b : List ℕ). b ++ s.bytes) w.is ∙ append_assoc out w.bytes s.bytes);
}

written_prefix : (g : Graph) (state : State) (before : List (List ℕ)) (line : List ℕ) (asked : Parsed) (out mid now : List ℕ) → asked ≡ asked_by line → NoQuit before → Written g before out mid state → (s : IsServedPrefix g state asked mid now) → WrittenPrefix g (before ++ line ∷ []) out now s.next
written_prefix g state before line asked out mid now e h w s = record {
  bytes = w.bytes ++ s.bytes;
  replies = replies_push g state s.next before line asked w.bytes s.bytes e h s.unquit w.replies s.reply;
  prefix = w.bytes ++ s.prefix;
  beyond = s.beyond;
  parts = ap (λ (b : List ℕ). w.bytes ++ b) s.parts ∙ sym (append_assoc w.bytes s.prefix s.beyond);
  is = s.is ∙ (ap (λ (b : List ℕ). b ++ s.prefix) w.is ∙ append_assoc out w.bytes s.prefix);
}

-- lines that ask the same get the same replies
written_same : (g : Graph) (state : State) (some others : List (List ℕ)) (out mid now : List ℕ) → asked_in others ≡ asked_in some → now ≡ mid → Written g some out mid state → Written g others out now state
written_same g state some others out mid now e s w = record {
  bytes = w.bytes;
  replies = subst (λ (x : List Parsed). IsReplies g opening x w.bytes state) (sym e) w.replies;
  is = s ∙ w.is;
}

-- between two lines
pub record Running (g : Graph) (state : State) (reader : LineReader) (text rest out now : List ℕ) : Type 0 where
  pub before : List (List ℕ)
  pub at_line : IsAt reader text rest before
  pub written : Written g before out now state
  pub unquit : NoQuit before

-- the same of what is told
abbrev pub Runs : Graph → State → LineReader → Option Told → Option Told → Option Told → Option Told → Type 0
Runs g state reader a b c d = IfTold a b (λ text rest. IfTold c d (λ out now. Running g state reader text rest out now))

abbrev pub Ends : Graph → Option Told → Option Told → Option Told → Option Told → Status → Type 0
Ends g a b c d how = IfTold a b (λ text rest. IfTold c d (λ out now. Stops g text rest out now how))

pub nothing_written : (g : Graph) (out : List ℕ) → Written g [] out out opening
nothing_written g out = record {
  bytes = [];
  replies = subst (λ (x : List Parsed). IsReplies g opening x [] opening) (sym asked_in-nothing) (record { turns = []; run = refl; said = (refl, refl) });
  is = sym (append-nil out);
}

pub runs_start : (g : Graph) (state : State) (reader : LineReader) (a c : Option Told) → state ≡ opening → IsFreshReader reader 1024 most_input → Runs g state reader a a c c
runs_start g state reader a c start fresh =
    told_same a _ (λ (text : List ℕ). told_same c _ (λ (out : List ℕ). record {
      before = [];
      at_line = IsBeyond-fresh reader 1024 most_input text fresh;
      written = subst (λ (s : State). Written g [] out out s) (sym start) (nothing_written g out);
      unquit = tt;
    }))

-- before the first line memory was refused
pub ends_unread : (g : Graph) (a c : Option Told) → Ends g a a c c status.NoMemory
ends_unread g a c =
    told_same a _ (λ (text : List ℕ). told_same c _ (λ (out : List ℕ). record {
      last = opening;
      some = [];
      others = lines_within text;
      parts = refl;
      written = nothing_written g out;
    }))

-- where a line and its reply follow, what then holds of all told bytes
both_steps : (a b b' c d d' : Option Told) (P : List ℕ → List ℕ → List ℕ → List ℕ → Type 0) (Q : List ℕ → List ℕ → Type 0) (S : List ℕ → List ℕ → Type 0) (R : List ℕ → List ℕ → List ℕ → List ℕ → Type 0) → ((text rest after out mid now : List ℕ) → P text rest out mid → Q rest after → S mid now → R text after out now) → IfTold a b (λ text rest. IfTold c d (λ out now. P text rest out now)) → IfTold b b' Q → IfTold d d' S → IfTold a b' (λ text rest. IfTold c d' (λ out now. R text rest out now))
both_steps a b b' c d d' P Q S R f h k l =
    IfTold_both a b b' (λ text rest. IfTold c d (λ out now. P text rest out now)) Q (λ text rest. IfTold c d' (λ out now. R text rest out now))
    (λ (text rest after : List ℕ) (p : IfTold c d (λ out now. P text rest out now)) (q : Q rest after).
    IfTold_both c d d' (λ out now. P text rest out now) S (λ out now. R text after out now)
    (λ (out mid now : List ℕ) (p' : P text rest out mid) (s : S mid now). f text rest after out mid now p' q s) p l) h k

-- where nothing was written
one_step : (a b b' c d : Option Told) (P : List ℕ → List ℕ → List ℕ → List ℕ → Type 0) (Q : List ℕ → List ℕ → Type 0) (R : List ℕ → List ℕ → List ℕ → List ℕ → Type 0) → ((text rest after out now : List ℕ) → P text rest out now → Q rest after → R text after out now) → IfTold a b (λ text rest. IfTold c d (λ out now. P text rest out now)) → IfTold b b' Q → IfTold a b' (λ text rest. IfTold c d (λ out now. R text rest out now))
one_step a b b' c d P Q R f h k =
    IfTold_both a b b' (λ text rest. IfTold c d (λ out now. P text rest out now)) Q (λ text rest. IfTold c d (λ out now. R text rest out now))
    (λ (text rest after : List ℕ) (p : IfTold c d (λ out now. P text rest out now)) (q : Q rest after).
    IfTold_then c d (λ out now. P text rest out now) (λ out now. R text after out now) (λ (out now : List ℕ) (p' : P text rest out now). f text rest after out now p' q) p) h k

pub runs_more : (g : Graph) (state next_state : State) (old new : LineReader) (asked : Parsed) (a b b' c d d' : Option Told) → Runs g state old a b c d → IfTold b b' (λ rest after. Goes old new rest after (next.More asked)) → IfTold d d' (λ out now. Serves g state asked out now next_state served.Written) → Runs g next_state new a b' c d'
runs_more g state next_state old new asked a b b' c d d' h k l =
    both_steps a b b' c d d' (Running g state old) (λ rest after. Goes old new rest after (next.More asked)) (λ out now. Serves g state asked out now next_state served.Written) (Running g next_state new)
    (λ (text rest after out mid now : List ℕ) (r : Running g state old text rest out mid) (q : Goes old new rest after (next.More asked)) (s : IsServed g state asked mid now next_state).
    let one : OneMore new text after r.before asked = q text r.before r.at_line in
    record {
      before = r.before ++ one.line ∷ [];
      at_line = one.beyond;
      written = written_push g state next_state r.before one.line asked out mid now one.is r.unquit r.written s;
      unquit = NoQuit-push r.before one.line r.unquit (ap is_quit (sym one.is) ∙ s.unquit);
    }) h k l

-- the line ends the run, and more would follow
quit_here : (g : Graph) (state : State) (spare : ℕ) (text left rest out mid now : List ℕ) (before : List (List ℕ)) (line : List ℕ) (asked : Parsed) → asked ≡ asked_by line → IsBeyond most_input spare text left (before ++ line ∷ []) → NoQuit before → Written g before out mid state → IsQuit asked mid now → IsDone g text rest out now
quit_here g state spare text left rest out mid now before line asked e at' h w q =
    let found = within_beyond spare text left (before ++ line ∷ []) at' in
    let quit = ap is_quit (sym e) ∙ q.quit in
    record {
      last = state;
      written = written_same g state before (lines_within text) out mid now (ap asked_in found.1 ∙ asked_in-cut before found.0 line h quit) q.is w;
      ended = inr (λ (n : NoQuit (lines_within text)). quits before found.0 line quit (subst NoQuit found.1 n));
    }

pub ends_quit : (g : Graph) (state next_state : State) (old new : LineReader) (asked : Parsed) (a b b' c d d' : Option Told) → Runs g state old a b c d → IfTold b b' (λ rest after. Goes old new rest after (next.More asked)) → IfTold d d' (λ out now. Serves g state asked out now next_state served.Quit) → Ends g a b' c d' status.Done
ends_quit g state next_state old new asked a b b' c d d' h k l =
    both_steps a b b' c d d' (Running g state old) (λ rest after. Goes old new rest after (next.More asked)) (λ out now. Serves g state asked out now next_state served.Quit) (λ text rest out now. Stops g text rest out now status.Done)
    (λ (text rest after out mid now : List ℕ) (r : Running g state old text rest out mid) (q : Goes old new rest after (next.More asked)) (s : IsQuit asked mid now).
    let one : OneMore new text after r.before asked = q text r.before r.at_line in
    quit_here g state (budget new) text (held new ++ after) after out mid now r.before one.line asked one.is one.beyond r.unquit r.written s) h k l

pub ends_more_fault : (g : Graph) (state next_state : State) (old new : LineReader) (asked : Parsed) (a b b' c d d' : Option Told) → Runs g state old a b c d → IfTold b b' (λ rest after. Goes old new rest after (next.More asked)) → IfTold d d' (λ out now. Serves g state asked out now next_state served.WriteFault) → Ends g a b' c d' status.WriteFault
ends_more_fault g state next_state old new asked a b b' c d d' h k l =
    both_steps a b b' c d d' (Running g state old) (λ rest after. Goes old new rest after (next.More asked)) (λ out now. Serves g state asked out now next_state served.WriteFault) (λ text rest out now. Stops g text rest out now status.WriteFault)
    (λ (text rest after out mid now : List ℕ) (r : Running g state old text rest out mid) (q : Goes old new rest after (next.More asked)) (s : IsServedPrefix g state asked mid now).
    let one : OneMore new text after r.before asked = q text r.before r.at_line in
    let found = within_beyond (budget new) text (held new ++ after) (r.before ++ one.line ∷ []) one.beyond in
    record { last = s.next; some = r.before ++ one.line ∷ []; others = found.0; parts = found.1; written = written_prefix g state r.before one.line asked out mid now one.is r.unquit r.written s }) h k l

starved : (g : Graph) (state : State) (text rest out mid now : List ℕ) (some others : List (List ℕ)) → lines_within text ≡ some ++ others → Written g some out mid state → now ≡ mid → IsStarved g text rest out now
starved g state text rest out mid now some others e w s =
    record { last = state; some = some; others = others; parts = e; written = written_same g state some some out mid now refl s w }

pub ends_more_memory : (g : Graph) (state next_state : State) (old new : LineReader) (asked : Parsed) (a b b' c d d' : Option Told) → Runs g state old a b c d → IfTold b b' (λ rest after. Goes old new rest after (next.More asked)) → IfTold d d' (λ out now. Serves g state asked out now next_state served.NoMemory) → Ends g a b' c d' status.NoMemory
ends_more_memory g state next_state old new asked a b b' c d d' h k l =
    both_steps a b b' c d d' (Running g state old) (λ rest after. Goes old new rest after (next.More asked)) (λ out now. Serves g state asked out now next_state served.NoMemory) (λ text rest out now. Stops g text rest out now status.NoMemory)
    (λ (text rest after out mid now : List ℕ) (r : Running g state old text rest out mid) (q : Goes old new rest after (next.More asked)) (s : now ≡ mid).
    let found = within_beyond (budget old) text (held old ++ rest) r.before r.at_line in
    starved g state text after out mid now r.before found.0 found.1 r.written s) h k l

-- all lines were read
read_whole : (g : Graph) (state : State) (text rest out now : List ℕ) (all : List (List ℕ)) → IsRead most_input text all → Written g all out now state → IsDone g text rest out now
read_whole g state text rest out now all read w = record {
  last = state;
  written = subst (λ (ls : List (List ℕ)). Written g ls out now state) (sym (within_short text read.short ∙ read.lines)) w;
  ended = inl read.short;
}

pub ends_last : (g : Graph) (state next_state : State) (old new : LineReader) (asked : Parsed) (a b b' c d d' : Option Told) → Runs g state old a b c d → IfTold b b' (λ rest after. Goes old new rest after (next.Last asked)) → IfTold d d' (λ out now. Serves g state asked out now next_state served.Written) → Ends g a b' c d' status.Done
ends_last g state next_state old new asked a b b' c d d' h k l =
    both_steps a b b' c d d' (Running g state old) (λ rest after. Goes old new rest after (next.Last asked)) (λ out now. Serves g state asked out now next_state served.Written) (λ text rest out now. Stops g text rest out now status.Done)
    (λ (text rest after out mid now : List ℕ) (r : Running g state old text rest out mid) (q : Goes old new rest after (next.Last asked)) (s : IsServed g state asked mid now next_state).
    let one : OneLast text r.before asked = q text r.before r.at_line in
    read_whole g next_state text after out now (r.before ++ one.line ∷ []) one.read (written_push g state next_state r.before one.line asked out mid now one.is r.unquit r.written s)) h k l

pub ends_last_quit : (g : Graph) (state next_state : State) (old new : LineReader) (asked : Parsed) (a b b' c d d' : Option Told) → Runs g state old a b c d → IfTold b b' (λ rest after. Goes old new rest after (next.Last asked)) → IfTold d d' (λ out now. Serves g state asked out now next_state served.Quit) → Ends g a b' c d' status.Done
ends_last_quit g state next_state old new asked a b b' c d d' h k l =
    both_steps a b b' c d d' (Running g state old) (λ rest after. Goes old new rest after (next.Last asked)) (λ out now. Serves g state asked out now next_state served.Quit) (λ text rest out now. Stops g text rest out now status.Done)
    (λ (text rest after out mid now : List ℕ) (r : Running g state old text rest out mid) (q : Goes old new rest after (next.Last asked)) (s : IsQuit asked mid now).
    let one : OneLast text r.before asked = q text r.before r.at_line in
    let same : asked_in (r.before ++ one.line ∷ []) ≡ asked_in r.before =
    ap asked_in (sym (append-nil (r.before ++ one.line ∷ []))) ∙ asked_in-cut r.before [] one.line r.unquit (ap is_quit (sym one.is) ∙ s.quit) in
    read_whole g state text after out now (r.before ++ one.line ∷ []) one.read (written_same g state r.before (r.before ++ one.line ∷ []) out mid now same s.is r.written)) h k l

pub ends_last_fault : (g : Graph) (state next_state : State) (old new : LineReader) (asked : Parsed) (a b b' c d d' : Option Told) → Runs g state old a b c d → IfTold b b' (λ rest after. Goes old new rest after (next.Last asked)) → IfTold d d' (λ out now. Serves g state asked out now next_state served.WriteFault) → Ends g a b' c d' status.WriteFault
ends_last_fault g state next_state old new asked a b b' c d d' h k l =
    both_steps a b b' c d d' (Running g state old) (λ rest after. Goes old new rest after (next.Last asked)) (λ out now. Serves g state asked out now next_state served.WriteFault) (λ text rest out now. Stops g text rest out now status.WriteFault)
    (λ (text rest after out mid now : List ℕ) (r : Running g state old text rest out mid) (q : Goes old new rest after (next.Last asked)) (s : IsServedPrefix g state asked mid now).
    let one : OneLast text r.before asked = q text r.before r.at_line in
    record { last = s.next; some = r.before ++ one.line ∷ []; others = []; parts = within_short text one.read.short ∙ one.read.lines ∙ sym (append-nil (r.before ++ one.line ∷ [])); written = written_prefix g state r.before one.line asked out mid now one.is r.unquit r.written s }) h k l

pub ends_last_memory : (g : Graph) (state next_state : State) (old new : LineReader) (asked : Parsed) (a b b' c d d' : Option Told) → Runs g state old a b c d → IfTold b b' (λ rest after. Goes old new rest after (next.Last asked)) → IfTold d d' (λ out now. Serves g state asked out now next_state served.NoMemory) → Ends g a b' c d' status.NoMemory
ends_last_memory g state next_state old new asked a b b' c d d' h k l =
    both_steps a b b' c d d' (Running g state old) (λ rest after. Goes old new rest after (next.Last asked)) (λ out now. Serves g state asked out now next_state served.NoMemory) (λ text rest out now. Stops g text rest out now status.NoMemory)
    (λ (text rest after out mid now : List ℕ) (r : Running g state old text rest out mid) (q : Goes old new rest after (next.Last asked)) (s : now ≡ mid).
    let found = within_beyond (budget old) text (held old ++ rest) r.before r.at_line in
    starved g state text after out mid now r.before found.0 found.1 r.written s) h k l

pub ends_end : (g : Graph) (state next_state : State) (old new : LineReader) (a b b' c d : Option Told) → Runs g state old a b c d → IfTold b b' (λ rest after. Goes old new rest after next.End) → Ends g a b' c d status.Done
ends_end g state next_state old new a b b' c d h k =
    one_step a b b' c d (Running g state old) (λ rest after. Goes old new rest after next.End) (λ text rest out now. Stops g text rest out now status.Done)
    (λ (text rest after out now : List ℕ) (r : Running g state old text rest out now) (q : Goes old new rest after next.End).
    read_whole g state text after out now r.before (q text r.before r.at_line) r.written) h k

pub ends_over : (g : Graph) (state next_state : State) (old new : LineReader) (a b b' c d : Option Told) → Runs g state old a b c d → IfTold b b' (λ rest after. Goes old new rest after next.Over) → Ends g a b' c d status.InputLong
ends_over g state next_state old new a b b' c d h k =
    one_step a b b' c d (Running g state old) (λ rest after. Goes old new rest after next.Over) (λ text rest out now. Stops g text rest out now status.InputLong)
    (λ (text rest after out now : List ℕ) (r : Running g state old text rest out now) (q : Goes old new rest after next.Over).
    let over : IsOver most_input text r.before = q text r.before r.at_line in
    record {
      last = state;
      long = over.long;
      written = subst (λ (ls : List (List ℕ)). Written g ls out now state) (sym over.whole) r.written;
      unquit = subst NoQuit (sym over.whole) r.unquit;
    }) h k

pub ends_failed : (g : Graph) (state next_state : State) (old new : LineReader) (a b b' c d : Option Told) → Runs g state old a b c d → IfTold b b' (λ rest after. Goes old new rest after next.Failed) → Ends g a b' c d status.ReadFault
ends_failed g state next_state old new a b b' c d h k =
    one_step a b b' c d (Running g state old) (λ rest after. Goes old new rest after next.Failed) (λ text rest out now. Stops g text rest out now status.ReadFault)
    (λ (text rest after out now : List ℕ) (r : Running g state old text rest out now) (q : Goes old new rest after next.Failed).
    let broken : IsBroken text after r.before = q text r.before r.at_line in
    record {
      last = state;
      taken = broken.taken;
      is = broken.is;
      written = subst (λ (ls : List (List ℕ)). Written g ls out now state) (sym broken.whole) r.written;
      unquit = subst NoQuit (sym broken.whole) r.unquit;
    }) h k
