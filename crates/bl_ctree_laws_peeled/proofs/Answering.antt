-- A block with first turns of loops unrolled has the answers of the block.
use Rattle.std.proofs.Common.{◌≡◌, Bool, true, false, not, ◌&&◌, ◌||◌, cond, refl, sym, ap, ◌∙◌}
use Rattle.bl_tree.proofs.Basics.{and_false}
use Rattle.bl_tree.specs.declared.place.Place.{Place}
use Rattle.bl_tree.specs.declared.static_path.Static.{Static}
use Rattle.bl_tree.specs.declared.tree.Expr.{Expr}
use Rattle.bl_graph_nodes.specs.Nodes.{Node, are_instant, is_instant, some_instant, some_strong, strong_instant}
use Rattle.bl_graph_nodes.specs.Plain.{Block, Bodies, Label, Plain, Again, Done, Repeat, Then, Until, While}
use Rattle.bl_ctree_laws.specs.Pending.{soon, soon_in, soon_in_each}
use Rattle.bl_ctree_laws.specs.Steps.{turn}
use Rattle.bl_ctree_laws.specs.Trees.{before}
use Rattle.bl_ctree_laws.proofs.Less.{before_ends}
use Rattle.bl_ctree_laws_peeled.specs.Answers.{SameBlockAnswers, UnrolledAnswers}
use Rattle.bl_ctree_laws_peeled.specs.Unrolls.{PlainUnrolls, EachUnrolls, Unrolls, acts_alike, again_if, agains_alike, awaits_alike, cobegins_alike}
use Rattle.bl_ctree_laws_peeled.specs.Unrolls.{first_alike, first_repeat, first_until, ifs_alike, no_body, no_more, one_body, repeats_alike, runs_alike}
use Rattle.bl_ctree_laws_peeled.specs.Unrolls.{untils_alike, whens_alike, while_if, whiles_alike}
use Rattle.bl_ctree_laws_peeled.proofs.Blocks.{soon_before}
use Rattle.bl_ctree_laws.proofs.Less.{or_nothing}

-- ---- tests with two answers

-- what a turn writes, whose loop does at its end what its body does
turn_alone : (s i : Bool) → (s || (i && s)) ≡ s
turn_alone true i = refl
turn_alone false true = refl
turn_alone false false = refl

and_yes_then : (i r : Bool) → ((i && true) && r) ≡ (i && r)
and_yes_then true r = refl
and_yes_then false r = refl

yes_or : (a : Bool) → true ≡ (a || true)
yes_or true = refl
yes_or false = refl

or_no : (a : Bool) → a ≡ (a || false)
or_no true = refl
or_no false = refl

-- ---- a turn of a loop

turn_soon : (test : Static → Bool) (body : Block) (next : Plain) → soon test next ≡ soon_in test body →
    soon_in test (turn body next) ≡ soon_in test body
turn_soon test body next same =
    soon_before test body (Then next Done)
    ∙ ap (λ b. soon_in test body || (are_instant body && b)) (or_nothing (soon test next) (is_instant next) ∙ same)
    ∙ turn_alone (soon_in test body) (are_instant body)

turn_instant : (body : Block) (next : Plain) → are_instant (turn body next) ≡ (are_instant body && (is_instant next && true))
turn_instant body next = before_ends body (Then next Done)

-- a turn of a loop and what follows it
opened_soon : (test : Static → Bool) (body rest : Block) (next : Plain) → soon test next ≡ soon_in test body →
    soon_in test (before (turn body next) rest) ≡ (soon_in test body || ((are_instant body && (is_instant next && true)) && soon_in test rest))
opened_soon test body rest next same =
    soon_before test (turn body next) rest ∙ (λ j. turn_soon test body next same j || (turn_instant body next j && soon_in test rest))

opened_instant : (body rest : Block) (next : Plain) →
    are_instant (before (turn body next) rest) ≡ ((are_instant body && (is_instant next && true)) && are_instant rest)
opened_instant body rest next = before_ends (turn body next) rest ∙ ap (λ b. b && are_instant rest) (turn_instant body next)

after_repeat : {l : Label} {at : Place} {body rest other : Block} → SameBlockAnswers (before (turn body (Repeat l at body)) rest) other →
    SameBlockAnswers (Then (Repeat l at body) rest) other
after_repeat {l} {at} {body} {rest} same = record {
  instant =
      sym (opened_instant body rest (Repeat l at body) ∙ ap (λ b. b && are_instant rest) (and_false (are_instant body))) ∙ same.instant;
  soon = λ test.
      sym (opened_soon test body rest (Repeat l at body) refl
      ∙ ap (λ b. soon_in test body || (b && soon_in test rest)) (and_false (are_instant body)))
      ∙ same.soon test;
}

after_until : {l : Label} {at : Place} {body : Block} {e : Expr} {rest other : Block} → SameBlockAnswers (before (turn body (Again l at body e)) rest) other →
    SameBlockAnswers (Then (Until l at body e) rest) other
after_until {l} {at} {body} {e} {rest} same = record {
  instant = sym (opened_instant body rest (Again l at body e) ∙ and_yes_then (are_instant body) (are_instant rest)) ∙ same.instant;
  soon = λ test.
      sym (opened_soon test body rest (Again l at body e) refl
      ∙ ap (λ b. soon_in test body || b) (and_yes_then (are_instant body) (soon_in test rest)))
      ∙ same.soon test;
}

-- ---- all answers

record SamePlainAnswers (s t : Plain) : Type 0 where
  instant : is_instant s ≡ is_instant t
  soon : (test : Static → Bool) → soon test s ≡ soon test t

record SameBodiesAnswers (bodies bodies' : Bodies) : Type 0 where
  strong : some_strong bodies ≡ some_strong bodies'
  all : strong_instant bodies ≡ strong_instant bodies'
  some : some_instant bodies ≡ some_instant bodies'
  soon : (test : Static → Bool) → soon_in_each test bodies ≡ soon_in_each test bodies'

joined_answers : {s t : Plain} {rest rest' : Block} → SamePlainAnswers s t → SameBlockAnswers rest rest' → SameBlockAnswers (Then s rest) (Then t rest')
joined_answers one more = record {
  instant = λ j. one.instant j && more.instant j;
  soon = λ test j. one.soon test j || (one.instant j && more.soon test j);
}

module _ {H : Node → Plain → Type 0} where
  mutual
    pub block_answers : {body body' : Block} → Unrolls H body body' → SameBlockAnswers body body'
    block_answers no_more = record { instant = refl; soon = λ test. refl }
    block_answers (first_alike alike rest) = joined_answers (plain_answers alike) (block_answers rest)
    block_answers (first_repeat falls turned) = after_repeat (block_answers turned)
    block_answers (first_until falls turned) = after_until (block_answers turned)

    plain_answers : {s t : Plain} → PlainUnrolls H s t → SamePlainAnswers s t
    plain_answers acts_alike = record { instant = refl; soon = λ test. refl }
    plain_answers awaits_alike = record { instant = refl; soon = λ test. refl }
    plain_answers runs_alike = record { instant = refl; soon = λ test. refl }
    plain_answers (ifs_alike body other) =
        let one = block_answers body in
        let two = block_answers other in
        record { instant = λ j. one.instant j || two.instant j; soon = λ test j. one.soon test j || two.soon test j }
    plain_answers (cobegins_alike bodies) =
        let each = bodies_answers bodies in
        record { instant = λ j. cond (each.strong j) (each.all j) (each.some j); soon = each.soon }
    plain_answers (whens_alike body) = let one = block_answers body in record { instant = one.instant; soon = one.soon }
    plain_answers (repeats_alike body) = record { instant = refl; soon = (block_answers body).soon }
    plain_answers (untils_alike body) = let one = block_answers body in record { instant = one.instant; soon = one.soon }
    plain_answers (whiles_alike body) = record { instant = refl; soon = (block_answers body).soon }
    plain_answers (agains_alike body) = record { instant = refl; soon = (block_answers body).soon }
    plain_answers (while_if {l} {at} {e} {body} {body'} turned) =
        let one = block_answers turned in
        record {
          instant = yes_or (are_instant body');
          soon = λ test. sym (turn_soon test body (While l at e body) refl) ∙ one.soon test ∙ or_no (soon_in test body');
        }
    plain_answers (again_if {body} turned) =
        let one = block_answers turned in
        record { instant = refl; soon = λ test. sym (or_nothing (soon_in test body) (are_instant body)) ∙ one.soon test }

    bodies_answers : {bodies bodies' : Bodies} → EachUnrolls H bodies bodies' → SameBodiesAnswers bodies bodies'
    bodies_answers no_body = record { strong = refl; all = refl; some = refl; soon = λ test. refl }
    bodies_answers (one_body {weak} body rest) =
        let one = block_answers body in
        let more = bodies_answers rest in
        record {
          strong = ap (λ b. not weak || b) more.strong;
          all = λ j. (weak || one.instant j) && more.all j;
          some = λ j. one.instant j || more.some j;
          soon = λ test j. one.soon test j || more.soon test j;
        }

pub unrolled_answers : UnrolledAnswers
unrolled_answers i body body' unrolls = block_answers unrolls
