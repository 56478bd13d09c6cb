use Rattle.std.proofs.Common.{◌≡◌, ◌++◌, [], map, rules, ap, sym, ◌∙◌}
use Rattle.std.proofs.lemmas.List.{append-nil}
use Rattle.bl_tree.specs.Reduce.{joined}
use Rattle.bl_tree.specs.declared.c.CStmtKind.{the_lemmas}
use Rattle.bl_ctext_places.specs.Lists.{inside_step}
use Rattle.bl_ctext_places.specs.Places.{places_in}
use Rattle.bl_simplify_live.specs.Reads.{inside_place, reads_of}
use Rattle.bl_simplify_live.proofs.Listed.{inside_is, one_listed, three_listed, two_listed}
use Rattle.bl_simplify_live.proofs.reads.+reading.Goals as goal

pub of_stmt-returns-in_ok-in_indices-in-Set : goal.of_stmt-returns-in_ok-in_indices-in-Set
of_stmt-returns-in_ok-in_indices-in-Set t c =
    let reads : reads_of c.args.stmt.now ≡ inside_place c.in-Set.place ++ places_in c.in-Set.value = search (rules, the_lemmas) in
    let value : c.deref-in-Set.result.now ≡ c.in-Set.value = search rules in
    two_listed _ _ _ _ _ _ _ c.in_ok-in_indices-in-Set.ensures
    (reads ∙ ap (λ l. l ++ places_in c.in-Set.value) (inside_is c.in-Set.place _ c.deref.ensures)
    ∙ ap (λ e. joined (map inside_step c.deref.result.now) ++ places_in e) (sym value)) c.in_expr.ensures

pub of_stmt-returns-in-Clear : goal.of_stmt-returns-in-Clear
of_stmt-returns-in-Clear t c =
    let reads : reads_of c.args.stmt.now ≡ inside_place c.in-Clear.place = search (rules, the_lemmas) in
    one_listed _ _ _ _ _ (reads ∙ (ap inside_place (sym c.deref-in-Clear.ensures) ∙ inside_is _ _ c.deref-in-Clear-2.ensures)) c.in_indices-in-Clear.ensures

pub of_stmt-returns-in_ok-in_expr-in-If-default-default-None : goal.of_stmt-returns-in_ok-in_expr-in-If-default-default-None
of_stmt-returns-in_ok-in_expr-in-If-default-default-None t c =
    let test = c.deref-in-If-default-default-None.result.now in
    let block = c.deref-in-If-default-default-None-2.result.now in
    let reads : reads_of c.args.stmt.now ≡ places_in test ++ (joined (map reads_of block) ++ []) = search (rules, the_lemmas) in
    two_listed _ _ _ _ _ _ _ c.in_ok-in_expr-in-If-default-default-None.ensures
    (reads ∙ ap (λ l. places_in test ++ l) (append-nil (joined (map reads_of block)))) c.of_block.ensures

pub of_stmt-returns-in_ok-of_block-in-If-default-default-Some : goal.of_stmt-returns-in_ok-of_block-in-If-default-default-Some
of_stmt-returns-in_ok-of_block-in-If-default-default-Some t c =
    let test = c.deref-in-If-default-default-Some.result.now in
    let block = c.deref-in-If-default-default-Some-2.result.now in
    let other = c.deref-in-If-default-default-Some-3.result.now in
    let reads : reads_of c.args.stmt.now ≡ places_in test ++ (joined (map reads_of block) ++ joined (map reads_of other)) = search (rules, the_lemmas) in
    three_listed _ _ _ _ _ _ _ _ _ c.in_ok-in_expr-in-If-default-default-Some.ensures c.in_ok-of_block-in-If-default-default-Some.ensures reads
    c.of_block-in-If-default-default-Some-2.ensures

pub of_stmt-returns-in_ok-in_expr-in-Loop : goal.of_stmt-returns-in_ok-in_expr-in-Loop
of_stmt-returns-in_ok-in_expr-in-Loop t c =
    let test = c.deref-in-Loop.result.now in
    let body = c.deref-in-Loop-2.result.now in
    let reads : reads_of c.args.stmt.now ≡ places_in test ++ joined (map reads_of body) = search (rules, the_lemmas) in
    two_listed _ _ _ _ _ _ _ c.in_ok-in_expr-in-Loop.ensures reads c.of_block-in-Loop.ensures
