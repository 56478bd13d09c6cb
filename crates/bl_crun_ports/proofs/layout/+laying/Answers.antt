use Rattle.std.proofs.Common.{◌-◌, ◌++◌, ◌∙◌, ap, arith, sym, take}
use Rattle.std.proofs.lemmas.Result.{on_ok_weaker}
use Rattle.bl_ctext_semantics.specs.inner.Maps.{text_at}
use Rattle.bl_ctext_semantics.specs.Tables.{with_entry}
use Rattle.bl_crun_ports.specs.inner.Spans.{kinds_of_members}
use Rattle.bl_crun_ports.proofs.KindLemmas.{before-end, placed-before, placed-within}
use Rattle.bl_crun_ports.proofs.LayLemmas.{copied, laid-grown, member-made, none-added, same-added, struct-laid, struct-made}
use Rattle.bl_crun_ports.proofs.layout.+laying.Goals as goal

pub add_type-returns-in-Scalar-clause-laid : goal.add_type-returns-in-Scalar-clause-laid
add_type-returns-in-Scalar-clause-laid t c =
    on_ok_weaker c.push.result
    (λ is. laid-grown c.args.places.now.structs.now (text_at c.args.spans.now) c.args.kinds.now.items c.push.new.kinds.items _ is c.requires) c.push.ensures

pub add_member-returns-clause-kinds : goal.add_member-returns-clause-kinds
add_member-returns-clause-kinds t c =
    let start = c.len-start.ensures ∙ c.args.kinds.now.ok.0 in
    let end = c.len.ensures ∙ c.add_type.new.kinds.ok.0 in
    on_ok_weaker c.push_times.result
    (λ is.
    member-made (take c.args.end c.args.places.now.structs.now) c.args.member.now c.args.kinds.now.items c.add_type.new.kinds.items c.push_times.new.kinds.items
    (record { start = c.len-start.result; len = c.len.result - c.len-start.result }) c.unwrap_or-times.result start c.in_ok-add_type.ensures.kinds
    (omega (arith, start, end))
    c.unwrap_or-times.ensures (omega (arith, c.if-times-eq0.false)) is) c.push_times.ensures

pub add_member-returns-clause-laid : goal.add_member-returns-clause-laid
add_member-returns-clause-laid t c =
    on_ok_weaker c.push_times.result
    (λ is. laid-grown c.args.places.now.structs.now (text_at c.add_type.new.spans) c.add_type.new.kinds.items c.push_times.new.kinds.items _ is
    c.in_ok-add_type.ensures.laid) c.push_times.ensures

pub add_new-returns-clause-kinds : goal.add_new-returns-clause-kinds
add_new-returns-clause-kinds t c =
    let structs = c.args.places.now.structs.now in
    on_ok_weaker c.add.result
    (λ add.
    struct-made structs c.args.name.now c.args.at c.index-places-at.result c.args.kinds.now.items c.add_members.new.kinds.items c.requires.1.1.1.0
    c.index-places-at.is
    (c.in_ok-add_members.ensures.kinds ∙ ap (λ ms. c.args.kinds.now.items ++ kinds_of_members (take c.args.at structs) ms) c.deref.ensures
    ∙ ap (λ x. c.args.kinds.now.items ++ kinds_of_members (take c.args.at structs) x.members) (sym c.index-places-at.is))) c.add.ensures

pub add_new-returns-clause-laid : goal.add_new-returns-clause-laid
add_new-returns-clause-laid t c =
    let structs = c.args.places.now.structs.now in
    let start = c.len-start.ensures ∙ c.args.kinds.now.ok.0 in
    let end = c.len.ensures ∙ c.add_members.new.kinds.ok.0 in
    let made =
    struct-made structs c.args.name.now c.args.at c.index-places-at.result c.args.kinds.now.items c.add_members.new.kinds.items c.requires.1.1.1.0
    c.index-places-at.is
    (c.in_ok-add_members.ensures.kinds ∙ ap (λ ms. c.args.kinds.now.items ++ kinds_of_members (take c.args.at structs) ms) c.deref.ensures
    ∙ ap (λ x. c.args.kinds.now.items ++ kinds_of_members (take c.args.at structs) x.members) (sym c.index-places-at.is)) in
    on_ok_weaker c.add.result
    (λ add.
    struct-laid structs c.args.name.now c.args.at c.index-places-at.result (text_at c.add_members.new.spans) (text_at c.add.new.map)
    (record { start = c.len-start.result; len = c.len.result - c.len-start.result }) c.args.kinds.now.items c.add_members.new.kinds.items c.requires.1.1.1.0
    c.index-places-at.is start
    (omega (arith, start, end)) made
    (λ asked. add asked ∙ ap
    (λ n. with_entry (text_at c.add_members.new.spans) n (record { start = c.len-start.result; len = c.len.result - c.len-start.result }) asked)
    c.as_str.ensures
    ∙ ap (λ x. with_entry (text_at c.add_members.new.spans) x.name (record { start = c.len-start.result; len = c.len.result - c.len-start.result }) asked)
    (sym c.index-places-at.is))
    c.in_ok-add_members.ensures.laid) c.add.ensures

pub add_struct-returns-in-None-clause-kinds : goal.add_struct-returns-in-None-clause-kinds
add_struct-returns-in-None-clause-kinds t c = none-added c.args.places.now.structs.now c.args.name.now c.args.end c.args.kinds.now.items (sym c.in-None.ensures)

pub add_struct-push_part-requires : goal.add_struct-push_part-requires
add_struct-push_part-requires t c = (c.requires.1.1.each c.args.name.now c.in-Some-find.span (sym c.in-Some-find.ensures)).within

pub add_struct-returns-in-Some-find-clause-kinds : goal.add_struct-returns-in-Some-find-clause-kinds
add_struct-returns-in-Some-find-clause-kinds t c =
    let structs = c.args.places.now.structs.now in
    on_ok_weaker c.push_part.result
    (λ is.
    same-added structs c.args.name.now c.args.end c.in-Some.at c.args.kinds.now.items c.push_part.new.kinds.items (sym c.in-Some.ensures)
    (copied structs (text_at c.args.spans.now) c.args.name.now c.in-Some-find.span c.args.kinds.now.items c.push_part.new.kinds.items c.requires.1.1
    (sym c.in-Some-find.ensures) is)) c.push_part.ensures

pub add_struct-returns-in-Some-find-clause-laid : goal.add_struct-returns-in-Some-find-clause-laid
add_struct-returns-in-Some-find-clause-laid t c =
    on_ok_weaker c.push_part.result
    (λ is. laid-grown c.args.places.now.structs.now (text_at c.args.spans.now) c.args.kinds.now.items c.push_part.new.kinds.items _ is c.requires.1.1)
    c.push_part.ensures

pub add_struct-add_new-requires : goal.add_struct-add_new-requires
add_struct-add_new-requires t c =
    let structs = c.args.places.now.structs.now in
    let is = sym c.in-Some.ensures in
    let below = before-end c.args.name.now structs c.args.end c.in-Some.at is in
    let placed = placed-before c.args.name.now structs c.args.end c.in-Some.at is in
    (omega (arith, c.requires.1.0, below), (placed-within c.args.name.now structs c.in-Some.at placed, (placed, c.requires.1.1)))

pub add_struct-returns-clause-kinds : goal.add_struct-returns-clause-kinds
add_struct-returns-clause-kinds t c =
    on_ok_weaker c.add_new.result
    (λ is.
    same-added c.args.places.now.structs.now c.args.name.now c.args.end c.in-Some.at c.args.kinds.now.items c.add_new.new.kinds.items (sym c.in-Some.ensures)
    is) c.add_new.ensures.kinds
