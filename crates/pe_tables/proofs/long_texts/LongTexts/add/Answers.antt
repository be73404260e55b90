-- What is stored at the string's node for the bytes before its blocks.
use Rattle.std.proofs.Common.{◌≡◌, ◌∙◌, ℕ, List, true, false, Option, None, Some, refl, ap, sym}
use Rattle.std.specs.Prelude.{◌==◌, ◌&&◌, is_some, is_none, option_and_then, if◌then◌else◌}
use Rattle.std.specs.Str.{bytes_eq}
use Rattle.std.proofs.lemmas.Bool.{true≢false}
use Rattle.pe_layout.specs.Layout.{file_of}
use Rattle.pe_tables.specs.LongTexts.{front, held_at, long_held}
use Rattle.pe_tables.specs.declared.key.Target.{Target}
use Rattle.pe_tables.proofs.LongTexts.{held_kept, held_set}
use Rattle.pe_tables.proofs.LongPaths.{known_same}
use Rattle.pe_tables.proofs.long_texts.LongTexts.add.Goals as goal

some_there : {X : Type 0} (o : Option X) → is_some o ≡ true → false ≡ is_none o
some_there None is = absurd (true≢false (sym is))
some_there (Some x) is = refl

none_there : {X : Type 0} (o : Option X) → is_some o ≡ false → true ≡ is_none o
none_there None is = refl
none_there (Some x) is = absurd (true≢false is)

pub returns-then-is_some-clause-held : goal.returns-then-is_some-clause-held
returns-then-is_some-clause-held g c =
    let old = c.args.self.now.nodes.items in
    let mid = c.enter.new.self.nodes.items in
    let text = c.args.text.bytes.now in
    let e = c.in_ok-node.ensures in
    let at : long_held old text ≡ c.held_at.result =
    sym (held_kept old mid e.grows text) ∙ ap (option_and_then (λ n. held_at mid n (front text))) e.node ∙ ap (held_at mid c.in_ok-node.node) (sym c.front-front.ensures) ∙ sym c.held_at.ensures in (
      some_there (long_held old text) (ap (λ (o : Option (Option Target)). is_some o) at ∙ sym c.is_some.ensures ∙ c.if-is_some.true),
      held_kept old mid e.grows,
    )

pub returns-clause-known : goal.returns-clause-known
returns-clause-known g c =
    let set = c.in_ok-set_target.ensures in
    known_same (file_of c.args.layout.now) c.enter.new.self c.set_target.new.self c.in_ok-node.ensures.known set.links set.count c.set_target.ensures.paths

pub returns-clause-held : goal.returns-clause-held
returns-clause-held g c =
    let old = c.args.self.now.nodes.items in
    let mid = c.enter.new.self.nodes.items in
    let new = c.set_target.new.self.nodes.items in
    let text = c.args.text.bytes.now in
    let target = c.args.target in
    let node : ℕ = c.in_ok-node.node in
    let e = c.in_ok-node.ensures in
    let set = c.in_ok-set_target.ensures in
    let at : long_held old text ≡ c.held_at.result =
    sym (held_kept old mid e.grows text) ∙ ap (option_and_then (λ n. held_at mid n (front text))) e.node ∙ ap (held_at mid node) (sym c.front-front.ensures) ∙ sym c.held_at.ensures in (
      none_there (long_held old text) (ap (λ (o : Option (Option Target)). is_some o) at ∙ sym c.is_some.ensures ∙ c.if-is_some.false),
      λ other.
          held_set mid new set.links e.known.trie node text target e.node
          (λ n bytes. set.targets n bytes ∙ ap (λ (bs : List ℕ). if n == node && bytes_eq bytes bs then Some target else held_at mid n bytes) c.front-front.ensures) other
          ∙ ap (λ (o : Option (Option Target)). if bytes_eq other text then Some target else o) (held_kept old mid e.grows other),
    )
