-- The text with its tokens stands behind the others.
use Rattle.std.proofs.Common.{◌≡◌, ℕ, ◌+◌, List, [], ◌∷◌, ◌++◌, length, map, ap, ◌∙◌, arith, append_assoc}
use Rattle.bl_tree.specs.declared.token.Token.{Token}
use Rattle.bl_joined.specs.Texts.{moved_token}
use Rattle.bl_joined.proofs.Adding.{added, few_lines}
use Rattle.bl_joined.proofs.Lines.{tokens_fit}
use Rattle.bl_joined.proofs.joined.Joined.append.Goals as goal

pub push_moved-requires : goal.push_moved-requires
push_moved-requires c =
    let few = few_lines c.requires.joined.0 c.args.self.now c.requires.joined.1 in record {
      fit = tokens_fit c.args.text.now c.args.tokens.now c.len-start.result c.args.self.now.lines c.requires.lexes
          (omega (arith, c.len-start.ensures, c.requires.room)) (omega (arith, c.len-start.ensures, few));
    }

pub returns : goal.returns
returns c = λ texts is.
    let size : c.len-start.result ≡ length c.args.self.now.text.items = omega (arith, c.len-start.ensures) in
    added texts c.args.text.now c.args.tokens.now c.args.self.now
    (record {
      text = c.push-2.new.self;
      tokens = c.push_moved.new.all;
      starts = c.push.new.self;
      lines = c.args.self.now.lines + (c.feeds.result + 1);
    })
    is c.requires.lexes
    (c.in_ok-push-2.ensures.items ∙ ap (λ (t : List ℕ). t ++ 10 ∷ []) c.in_ok-extend_from_slice.ensures.items
    ∙ append_assoc c.args.self.now.text.items c.args.text.now (10 ∷ []))
    (c.in_ok-push_moved.ensures ∙ ap (λ n. c.args.self.now.tokens.items ++ map (moved_token n c.args.self.now.lines) c.args.tokens.now) size)
    (c.in_ok-push.ensures.items ∙ ap (λ n. c.args.self.now.starts.items ++ n ∷ []) size)
    (ap (λ n. c.args.self.now.lines + (n + 1)) c.feeds.ensures)
