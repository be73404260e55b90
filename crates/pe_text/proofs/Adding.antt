-- What the steps of a text writer add to its text.
use Rattle.std.proofs.Common.{ℕ, ◌≡◌, ◌+◌, ◌-◌, Bool, true, false, MatchBool, List, [], ◌++◌, take, drop, length, refl, sym, ◌∙◌, ap, append_assoc, append-nil, Ok, Err, Result, is_err}
use Rattle.std.proofs.Math.Seq.{take-add}
use Rattle.std.proofs.lemmas.List.{take_rest, take-append-drop}
use Rattle.pe_text.specs.declared.device.Failed.{Failed}
use Rattle.pe_text.specs.declared.text_writer.TextWriter.{TextWriter}
use Rattle.pe_text.specs.TextWriter.{IsBeginning, WritesAll, IsFresh, IsReady, Stands, Adds, TellsFailure, TakesNoMore}

-- one more call took n bytes of the rest
pub taken-more : (at n : ℕ) (piece before mid now : List ℕ) → mid ≡ before ++ take at piece
    → now ≡ mid ++ take n (take (length piece - at) (drop at piece)) → now ≡ before ++ take (at + n) piece
taken-more at n piece before mid now p q =
    q ∙ rw (take_rest piece at, p, take-add at n piece) (append_assoc before (take at piece) (take n (drop at piece)))

-- the held bytes grow, and so does the text
held-more : (failed : Bool) (now held more text : List ℕ) (count n : ℕ) → MatchBool failed ((count ≡ n + 1) × IsBeginning now text) ((count ≡ n) × (text ≡ now ++ held))
    → MatchBool failed ((count ≡ n + 1) × IsBeginning now (text ++ more)) ((count ≡ n) × (text ++ more ≡ now ++ (held ++ more)))
held-more true now held more text count n s = (s.0, (s.1.0 ++ more, rw s.1.1 (append_assoc now s.1.0 more)))
held-more false now held more text count n s = (s.0, rw s.1 (append_assoc now held more))

-- a failed write took the beginning of the text
part-taken : (before now held text : List ℕ) (k : ℕ) → now ≡ before ++ take k held → text ≡ before ++ held → IsBeginning now (text ++ [])
part-taken before now held text k p q = (drop k held, rw (append-nil, q, p, append_assoc, take-append-drop) refl)

-- after more writes the bytes at the start are still the first
beginning-more : (start before now more : List ℕ) → IsBeginning start before → now ≡ before ++ more → IsBeginning start now
beginning-more start before now more p q = (p.0 ++ more, rw (q, p.1) (append_assoc start p.0 more))

-- the counts, after a failure and without one
counted-either : (failed : Bool) (A B C D : Type 0) → MatchBool failed (A × B) (C × D) → MatchBool failed A C
counted-either true A B C D s = s.0
counted-either false A B C D s = s.0

module _ {W : Type 0} (taken : W → List ℕ) (failures : W → ℕ) where
  -- these bytes are held after those already held
  pub Adds-held : (a b : TextWriter W) (bytes : List ℕ) → IsReady failures a → b.writer ≡ a.writer → b.held.items ≡ a.held.items ++ bytes → b.failed ≡ a.failed → Adds taken failures a b bytes
  unfolding Stands
  Adds-held a b bytes ready w h f = record {
    same = rw w refl;
    ready = rw (f, w) ready;
    text = λ start t n s. rw (f, w, h) (s.0, held-more a.failed (taken a.writer.now) a.held.items bytes t (failures a.writer.now) n s.1);
  }

  -- the held bytes are written
  pub Adds-written : (a b : TextWriter W) (r : Result (Unit {0}) Failed) → IsReady failures a → a.failed ≡ false → b.writer.ghost_name ≡ a.writer.ghost_name → b.held.items ≡ [] → b.failed ≡ is_err r
      → WritesAll (taken a.writer.now) (taken b.writer.now) (failures a.writer.now) (failures b.writer.now) r a.held.items → Adds taken failures a b []
  unfolding Stands
  Adds-written a b (Ok u) ready not_failed same empty f w = record {
    same = same;
    ready = λ _. rw w.1 (ready not_failed);
    text = λ start t n s. let s' = rw not_failed at s.1 in
        (beginning-more start _ _ _ s.0 w.0, rw (f, empty) (w.1 ∙ s'.0, append-nil t ∙ s'.1 ∙ sym w.0 ∙ sym (append-nil (taken b.writer.now))));
  }
  Adds-written a b (Err e) ready not_failed same empty f w = record {
    same = same;
    ready = λ no. cc;
    text = λ start t n s. let s' = rw not_failed at s.1 in
        (beginning-more start _ _ _ s.0 w.0.1, rw f (w.1 ∙ ap (λ (m : ℕ). m + 1) s'.0, part-taken (taken a.writer.now) (taken b.writer.now) a.held.items t w.0.0 w.0.1 s'.1));
  }

  -- nothing is written after a failure, whatever is added to the text
  pub Adds-failed : (a b : TextWriter W) (bytes : List ℕ) → a.failed ≡ true → b.writer ≡ a.writer → b.failed ≡ a.failed → Adds taken failures a b bytes
  unfolding Stands
  Adds-failed a b bytes failed w f = record {
    same = rw w refl;
    ready = λ no. cc;
    text = λ start t n s. let more = rw failed at (held-more a.failed (taken a.writer.now) a.held.items bytes t (failures a.writer.now) n s.1) in rw (f, failed, w) (s.0, more);
  }

  -- the flag of a failure agrees with the count
  pub tells_failure : (a : TextWriter W) → TellsFailure taken failures a a.failed
  unfolding Stands
  tells_failure a start text count s = counted-either a.failed _ _ _ _ s.1

  -- after a failure no more is written
  pub takes-no-more : (a : TextWriter W) → a.failed ≡ true → TakesNoMore taken failures a
  takes-no-more a failed bytes = Adds-failed a a bytes failed refl refl

  -- after the last write, if one has failed
  pub ends-failed : (a b : TextWriter W) → Adds taken failures a b [] → b.failed ≡ true
      → (start text : List ℕ) (count : ℕ) → Stands taken failures a start text count
      → IsBeginning start (taken b.writer.now) × IsBeginning (taken b.writer.now) text × (failures b.writer.now ≡ count + 1)
  unfolding Stands
  ends-failed a b p failed start text count s = let s' = rw (failed, append-nil) at (p.text start text count s) in (s'.0, s'.1.1, s'.1.0)

  -- after the last write, if none has failed
  pub ends-whole : (a b : TextWriter W) → Adds taken failures a b [] → b.held.items ≡ [] → b.failed ≡ false
      → (start text : List ℕ) (count : ℕ) → Stands taken failures a start text count → (taken b.writer.now ≡ text) × (failures b.writer.now ≡ count)
  unfolding Stands
  ends-whole a b p empty not_failed start text count s =
      let s' = rw (not_failed, empty) at (p.text start text count s) in (sym (append-nil _) ∙ sym s'.1.1 ∙ append-nil text, s'.1.0)

  -- at first the text is the bytes that the sink had taken
  pub Stands-fresh : (a : TextWriter W) (w : W) → IsFresh w a → Stands taken failures a (taken w) (taken w) (failures w)
  unfolding Stands
  Stands-fresh a w fresh = rw (fresh.not_failed, fresh.holds_none, fresh.sink_is) (([], sym (append-nil (taken w))), (refl, sym (append-nil (taken w))))

infixl 20 ◌then◌
-- some bytes are added, and then more
pub ◌then◌ : {W : Type 0} {taken : W → List ℕ} {failures : W → ℕ} {a b c : TextWriter W} {x y : List ℕ}
    → Adds taken failures a b x → Adds taken failures b c y → Adds taken failures a c (x ++ y)
p then q = record {
  same = q.same ∙ p.same;
  ready = q.ready;
  text = λ start t n s. rw (← append_assoc) (q.text start _ n (p.text start t n s));
}

-- one more part of a text
pub part-then : {W : Type 0} {taken : W → List ℕ} {failures : W → ℕ} {a b c : TextWriter W} (at n : ℕ) (bytes : List ℕ)
    → Adds taken failures a b (take at bytes) → Adds taken failures b c (take n (take (length bytes - at) (drop at bytes))) → Adds taken failures a c (take (at + n) bytes)
part-then at n bytes p q = rw take-add (p then (rw take_rest at q))
