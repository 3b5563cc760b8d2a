-- The cursors of an answer lead to its last page.
use Rattle.std.proofs.Common.{◌≡◌, ℕ, zero, suc, ◌+◌, ◌-◌, ◌<◌, ◌≤◌, min, Bool, true, false, List, [], ◌∷◌, length, Option, Some, None, refl, sym, subst, arith}
use Rattle.std.specs.Prelude.{MatchOption, nat_lt, IsTrue, ◌↔◌}
use Rattle.std.proofs.lemmas.Bool.Decides.{nat_tests}
use Rattle.road_model.specs.declared.answer.Optimum.{Optimum}
use Rattle.road_model.specs.declared.answer.PageSpan.{PageSpan}
use Rattle.road_model.specs.declared.answer.Plan.TheVariants.{Found}
use Rattle.road_model.specs.declared.answer.Query.{Query}
use Rattle.road_model.specs.declared.answer.Route.{Route}
use Rattle.road_model.specs.declared.request.Cursor.{Cursor}
use Rattle.road_model.specs.declared.request.Reply.{Reply}
use Rattle.road_model.specs.declared.request.Reply.TheVariants as reply
use Rattle.road_model.specs.Answers.{IsPage}
use Rattle.desk_core.specs.Replies.{IsPageReply, more_of, numbers_in}
use Rattle.desk_core.specs.Runs.{IsReplyChain, HasReplyChain}

less_tells : (a b : ℕ) → IsTrue (nat_lt a b) ↔ (a < b)
less_tells a b = (λ h. grind (arith, nat_tests), λ h. grind (arith, nat_tests))

abbrev span_at : ℕ → ℕ → ℕ → PageSpan
span_at total size offset = record {
  first = min offset total;
  count = min size (total - min offset total);
  more = nat_lt (min offset total + min size (total - min offset total)) total;
}

span_is_page : (total size offset : ℕ) → IsPage total size offset (span_at total size offset)
span_is_page total size offset = record { is_first = refl; is_count = refl; is_more = less_tells _ _ }

abbrev page_at : ℕ → Query → ℕ → ℕ → ℕ → Reply
page_at number q size offset total = reply.Page number (span_at total size offset) (more_of number q size (span_at total size offset))

record ChainFrom (number : ℕ) (q : Query) (size offset most : ℕ) (optimum : Optimum) (others : List Route) : Type 0 where
  replies : List Reply
  chain : IsReplyChain number q size offset (Found optimum others) replies
  few : length replies ≤ most

page_is : (number : ℕ) (q : Query) (size offset : ℕ) (optimum : Optimum) (others : List Route) → IsPageReply number q size offset (Found optimum others) (page_at number q size offset (1 + length others))
page_is number q size offset optimum others = record {
  span = span_at (1 + length others) size offset;
  page = span_is_page (1 + length others) size offset;
  is = refl;
}

abbrev After : ℕ → Query → ℕ → Optimum → List Route → List Reply → Option Cursor → Type 0
After number q size optimum others later more = MatchOption more (later ≡ []) (λ c. IsReplyChain number q size c.offset (Found optimum others) later)

chain_at : (number : ℕ) (q : Query) (size offset most : ℕ) (optimum : Optimum) (others : List Route) (b : Bool) → nat_lt (min offset (1 + length others) + min size (1 + length others - min offset (1 + length others))) (1 + length others) ≡ b → (b ≡ true → ChainFrom number q size (min offset (1 + length others) + min size (1 + length others - min offset (1 + length others))) most optimum others) → ChainFrom number q size offset (suc most) optimum others
chain_at number q size offset most optimum others false e more =
    let none : more_of number q size (span_at (1 + length others) size offset) ≡ None = rw e refl in
    record {
      replies = page_at number q size offset (1 + length others) ∷ [];
      chain = (page_is number q size offset optimum others, subst (After number q size optimum others []) (sym none) refl);
      few = omega arith;
    }
chain_at number q size offset most optimum others true e more =
    let rest = more refl in
    let next : Cursor = record { version = number; query = numbers_in q; size = size; offset = min offset (1 + length others) + min size (1 + length others - min offset (1 + length others)) } in
    let some : more_of number q size (span_at (1 + length others) size offset) ≡ Some next = rw e refl in
    record {
      replies = page_at number q size offset (1 + length others) ∷ rest.replies;
      chain = (page_is number q size offset optimum others, subst (After number q size optimum others rest.replies) (sym some) rest.chain);
      few = omega (arith, rest.few);
    }

before : (a b : ℕ) → nat_lt a b ≡ true → a < b
before a b e = grind (arith, nat_tests)

chain_from : (number : ℕ) (q : Query) (size : ℕ) (optimum : Optimum) (others : List Route) (most offset : ℕ) → 1 ≤ size → offset < 1 + length others → 1 + length others ≤ offset + most → ChainFrom number q size offset most optimum others
chain_from number q size optimum others zero offset some inside all = absurd (omega (arith, inside, all))
chain_from number q size optimum others (suc most) offset some inside all =
    chain_at number q size offset most optimum others _ refl (λ e.
    let on : min offset (1 + length others) + min size (1 + length others - min offset (1 + length others)) < 1 + length others = before _ _ e in
    chain_from number q size optimum others most _ some on (omega (arith, some, inside, all, on)))

pub chain_ends : (number : ℕ) (q : Query) (size : ℕ) (optimum : Optimum) (others : List Route) → 1 ≤ size → HasReplyChain number q size optimum others
chain_ends number q size optimum others some =
    let found = chain_from number q size optimum others (1 + length others) 0 some (omega arith) (omega arith) in
    record { replies = found.replies; chain = found.chain; few = found.few }
