-- One more command of a run.
use Rattle.std.proofs.Common.{◌≡◌, ℕ, ◌+◌, ◌<◌, List, [], ◌∷◌, ◌++◌, length, drop, take, get_or, refl, ap, ◌∙◌, sym, append_assoc}
use Rattle.std.proofs.lemmas.List.{at_drop_more, take_more}
use Rattle.pe_space.specs.declared.reply.Command.{Command}
use Rattle.pe_space.specs.declared.reply.Reply.{Reply}
use Rattle.pe_space.specs.Content.{Content}
use Rattle.pe_space.specs.Commands.{reply_to, after, replies_of, after_all}

pub told_more : {A : Type 0} (cs : List Command) (k : ℕ) (d : Command) (rs more : List (Reply A)) (r : Reply A) (c new : Content) (all : List (Reply A)) → k < length cs
    → r ≡ reply_to (get_or cs k d) c → new ≡ after (get_or cs k d) c → more ≡ rs ++ r ∷ []
    → rs ++ replies_of (drop k cs) c ≡ all → more ++ replies_of (drop (k + 1) cs) new ≡ all
told_more cs k d rs more r c new all lt is then_is pushed h =
    ap (λ (xs : List (Reply _)). xs ++ replies_of (drop (k + 1) cs) new) pushed
    ∙ append_assoc rs (r ∷ []) (replies_of (drop (k + 1) cs) new)
    ∙ ap (λ (x : Reply _). rs ++ x ∷ replies_of (drop (k + 1) cs) new) is
    ∙ ap (λ (x : Content). rs ++ reply_to (get_or cs k d) c ∷ replies_of (drop (k + 1) cs) x) then_is
    ∙ ap (λ (xs : List (Reply _)). rs ++ xs) (sym (at_drop_more (λ (xs : List Command). replies_of xs c) cs k d lt))
    ∙ h

pub rest_more : (cs : List Command) (k : ℕ) (d : Command) (c new end : Content) → k < length cs → new ≡ after (get_or cs k d) c
    → after_all (drop k cs) c ≡ end → after_all (drop (k + 1) cs) new ≡ end
rest_more cs k d c new end lt then_is h =
    ap (after_all (drop (k + 1) cs)) then_is ∙ sym (at_drop_more (λ (xs : List Command). after_all xs c) cs k d lt) ∙ h

pub after_all-append : (xs ys : List Command) (c : Content) → after_all (xs ++ ys) c ≡ after_all ys (after_all xs c)
after_all-append [] ys c = refl
after_all-append (x ∷ xs) ys c = after_all-append xs ys (after x c)

pub so_far_more : (cs : List Command) (k : ℕ) (d : Command) (c new start : Content) → k < length cs → new ≡ after (get_or cs k d) c
    → c ≡ after_all (take k cs) start → new ≡ after_all (take (k + 1) cs) start
so_far_more cs k d c new start lt then_is h =
    then_is ∙ ap (after (get_or cs k d)) h ∙ sym (ap (λ (xs : List Command). after_all xs start) (take_more cs k d lt) ∙ after_all-append (take k cs) (get_or cs k d ∷ []) start)
