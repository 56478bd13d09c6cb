use Rattle.std.proofs.Common.{◌≡◌, ap, sym, ◌∙◌, subst, false, is_none, None}
use Rattle.std.proofs.lemmas.List.{take_rest}
use Rattle.bl_rows.specs.Lines.{has_feed}
use Rattle.bl_rows.specs.Reading.{Reading, Front, rows_in}
use Rattle.bl_rows.proofs.Scans.{midst_next, midst_same, midst_front, midst_stopped_rows, midst_stopped_fault, midst_kept_rows, midst_kept_fault}
use Rattle.bl_rows.proofs.Scans.{midst_kept_state, no_stop, a_stop, map_ok, ok_by}
use Rattle.bl_rows.proofs.rows.Rows.take_lines.Goals as goal

pub returns-in_err-taken-clause-front : goal.returns-in_err-taken-clause-front
returns-in_err-taken-clause-front c = subst (λ rows. Front c.args.into.now.items rows
    (rows_in c.args.self.now c.args.piece.now)) (sym c.in_err-taken.ensures.none)
    (midst_front c.args.self.now c.args.piece.now c.args.into.now.items c.lines.into.items c.lines.self c.lines.rest.now c.requires c.lines.invariant)

pub lines-preserved : goal.lines-preserved
lines-preserved c = midst_next c.args.self.now c.args.piece.now c.args.into.now.items c.lines.into.items c.take_next.new.into.items
    c.lines.self c.take_next.new.self c.lines.rest.now _ c.in_ok-taken.field-0 c.in-Some.taken
    c.lines.invariant (sym (ap (λ (r : Reading). r.stop) c.self-in-lines.view_is)
    ∙ no_stop c.self-in-lines.inside.stop c.is_none.result c.is_none.ensures c.lines-test.true)
    (subst (λ (r : Reading). has_feed r.line ≡ false) c.self-in-lines.view_is c.self-in-lines.invariant.3)
    (take_rest c.lines.rest.now c.in-Some.taken) c.in_ok-taken.ensures.taken c.in-Some.is

pub returns-in-None-clause-stop : goal.returns-in-None-clause-stop
returns-in-None-clause-stop c =
    let same = c.in_ok-taken.ensures.same c.in-None.is in
    let m = midst_same c.args.self.now c.args.piece.now c.args.into.now.items c.lines.into.items c.take_next.new.into.items
    c.lines.self c.take_next.new.self c.lines.rest.now c.lines.invariant same (c.in_ok-taken.ensures.no_row c.in-None.is) in
    let running : c.take_next.new.self.stop ≡ None = ap (λ (r : Reading). r.stop) same ∙ (sym (ap (λ (r : Reading). r.stop) c.self-in-lines.view_is)
    ∙ no_stop c.self-in-lines.inside.stop c.is_none.result c.is_none.ensures c.lines-test.true) in
    let feedless : has_feed c.take_next.new.self.line ≡ false = ap (λ (r : Reading). has_feed r.line) same
    ∙ subst (λ (r : Reading). has_feed r.line ≡ false) c.self-in-lines.view_is c.self-in-lines.invariant.3 in
    map_ok c.keep.result (λ e. midst_kept_fault c.args.self.now c.args.piece.now c.args.into.now.items c.take_next.new.into.items c.take_next.new.self c.lines.rest.now
    c.keep.new.self.stop c.requires m running feedless (c.in_ok-taken.ensures.feedless c.in-None.is) e) c.keep.ensures.stop

pub returns-in-None-clause-rows : goal.returns-in-None-clause-rows
returns-in-None-clause-rows c =
    let same = c.in_ok-taken.ensures.same c.in-None.is in
    let m = midst_same c.args.self.now c.args.piece.now c.args.into.now.items c.lines.into.items c.take_next.new.into.items
    c.lines.self c.take_next.new.self c.lines.rest.now c.lines.invariant same (c.in_ok-taken.ensures.no_row c.in-None.is) in
    let running : c.take_next.new.self.stop ≡ None = ap (λ (r : Reading). r.stop) same ∙ (sym (ap (λ (r : Reading). r.stop) c.self-in-lines.view_is)
    ∙ no_stop c.self-in-lines.inside.stop c.is_none.result c.is_none.ensures c.lines-test.true) in
    let feedless : has_feed c.take_next.new.self.line ≡ false = ap (λ (r : Reading). has_feed r.line) same
    ∙ subst (λ (r : Reading). has_feed r.line ≡ false) c.self-in-lines.view_is c.self-in-lines.invariant.3 in
    ok_by c.keep.result (midst_kept_rows c.args.self.now c.args.piece.now c.args.into.now.items c.take_next.new.into.items c.take_next.new.self c.lines.rest.now
    c.requires m running feedless (c.in_ok-taken.ensures.feedless c.in-None.is))

pub returns-in-None-clause-front : goal.returns-in-None-clause-front
returns-in-None-clause-front c =
    midst_front c.args.self.now c.args.piece.now c.args.into.now.items c.take_next.new.into.items c.take_next.new.self c.lines.rest.now c.requires
    (midst_same c.args.self.now c.args.piece.now c.args.into.now.items c.lines.into.items c.take_next.new.into.items
    c.lines.self c.take_next.new.self c.lines.rest.now c.lines.invariant (c.in_ok-taken.ensures.same c.in-None.is)
    (c.in_ok-taken.ensures.no_row c.in-None.is))

pub returns-in-None-clause-state : goal.returns-in-None-clause-state
returns-in-None-clause-state c =
    let same = c.in_ok-taken.ensures.same c.in-None.is in
    let m = midst_same c.args.self.now c.args.piece.now c.args.into.now.items c.lines.into.items c.take_next.new.into.items
    c.lines.self c.take_next.new.self c.lines.rest.now c.lines.invariant same (c.in_ok-taken.ensures.no_row c.in-None.is) in
    let running : c.take_next.new.self.stop ≡ None = ap (λ (r : Reading). r.stop) same ∙ (sym (ap (λ (r : Reading). r.stop) c.self-in-lines.view_is)
    ∙ no_stop c.self-in-lines.inside.stop c.is_none.result c.is_none.ensures c.lines-test.true) in
    let feedless : has_feed c.take_next.new.self.line ≡ false = ap (λ (r : Reading). has_feed r.line) same
    ∙ subst (λ (r : Reading). has_feed r.line ≡ false) c.self-in-lines.view_is c.self-in-lines.invariant.3 in
    map_ok c.keep.result (λ line stop. midst_kept_state c.args.self.now c.args.piece.now c.args.into.now.items c.take_next.new.into.items c.take_next.new.self
    c.keep.new.self c.lines.rest.now c.requires m running feedless (c.in_ok-taken.ensures.feedless c.in-None.is)
    stop (line stop) c.keep.ensures.at c.keep.ensures.columns c.keep.ensures.ended) c.keep.ensures.line

pub returns-clause-stop : goal.returns-clause-stop
returns-clause-stop c = midst_stopped_fault c.args.self.now c.args.piece.now c.args.into.now.items c.lines.into.items c.lines.self
    c.lines.rest.now c.requires c.lines.invariant (subst (λ (r : Reading). is_none r.stop ≡ false) c.self-in-lines.view_is
    (a_stop c.self-in-lines.inside.stop c.is_none.result c.is_none.ensures c.lines-test.false))

pub returns-clause-rows : goal.returns-clause-rows
returns-clause-rows c = midst_stopped_rows c.args.self.now c.args.piece.now c.args.into.now.items c.lines.into.items c.lines.self
    c.lines.rest.now c.requires c.lines.invariant (subst (λ (r : Reading). is_none r.stop ≡ false) c.self-in-lines.view_is
    (a_stop c.self-in-lines.inside.stop c.is_none.result c.is_none.ensures c.lines-test.false))

pub returns-clause-front : goal.returns-clause-front
returns-clause-front c = midst_front c.args.self.now c.args.piece.now c.args.into.now.items c.lines.into.items c.lines.self
    c.lines.rest.now c.requires c.lines.invariant
