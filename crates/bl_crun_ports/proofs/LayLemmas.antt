-- Structs that are laid out one behind the other.
use Rattle.std.proofs.Common.{◌≡◌, ℕ, zero, suc, ◌-◌, ◌≤◌, List, [], ◌∷◌, ◌++◌, length, get_or, take, Some, None, ap, sym, subst, ◌∙◌, arith}
use Rattle.std.proofs.Common.{append-nil, length-append}
use Rattle.std.specs.Prelude.{codes, map, unwrap_or}
use Rattle.std.proofs.lemmas.List.{append_assoc, map-append, take_all}
use Rattle.bl_tree.specs.declared.text.Text.{Text}
use Rattle.bl_tree.specs.declared.scalar.Scalar.{Scalar}
use Rattle.bl_tree.specs.declared.c.CMember.{CMember}
use Rattle.bl_tree.specs.declared.c.CStruct.{CStruct}
use Rattle.bl_tree.specs.declared.c.CFunc.{CFunc}
use Rattle.bl_ctext_semantics.specs.Cells.{cells_at, cells_of, inner_of}
use Rattle.bl_ctext_semantics.specs.Memory.{state_object, input_object, output_object}
use Rattle.bl_ctext_semantics.specs.Parts.{parts_from}
use Rattle.bl_ctext_semantics.specs.Tables.{Table, with_entry}
use Rattle.bl_crun_ports.specs.declared.repeat.Span.{Span}
use Rattle.bl_crun_ports.specs.Layout.{kinds_of}
use Rattle.bl_crun_ports.specs.inner.Spans.{at_span, kinds_named, kinds_of_member, kinds_of_members, kinds_of_type, placed_before, struct_position}
use Rattle.bl_crun_ports.specs.inner.Spans.{repeated, StructsLaid, StandsAtSpan}
use Rattle.bl_crun_ports.proofs.KindLemmas.{before-end, found-name, kinds-at, kinds-member, kinds-none, kinds-same, kinds-whole, placed-before}
use Rattle.bl_crun_ports.proofs.SpanLemmas.{laid-more, laid-next, stands-last}

pub laid-grown : (structs : List CStruct) (spans : Table Span) (old new more : List Scalar) → new ≡ old ++ more → StructsLaid structs spans old →
    StructsLaid structs spans new
laid-grown structs spans old new more is h = subst (λ l. StructsLaid structs spans l) (sym is) (laid-more structs spans old more h)

-- ---- a member

member-is : (structs : List CStruct) (m : CMember) (times : ℕ) → times ≡ unwrap_or m.length 1 →
    kinds_of_member structs m ≡ repeated times (kinds_of_type structs m.ty)
member-is structs m times is = kinds-member structs m ∙ ap (λ n. repeated n (kinds_of_type structs m.ty)) (sym is)

once-more : (times : ℕ) (part : List Scalar) → 1 ≤ times → part ++ repeated (times - 1) part ≡ repeated times part
once-more zero part some = absurd (omega (arith, some))
once-more (suc n) part some = let same : suc n - 1 ≡ n = omega arith in ap (λ k. part ++ repeated k part) same

pub member-made : (structs : List CStruct) (m : CMember) (old one two : List Scalar) (span : Span) (times : ℕ) → span.start ≡ length old →
    one ≡ old ++ kinds_of_type structs m.ty →
    span.len ≡ length one - length old → times ≡ unwrap_or m.length 1 → 1 ≤ times → two ≡ one ++ repeated (times - 1) (at_span span one) →
    two ≡ old ++ kinds_of_member structs m
member-made structs m old one two span times start made len is some told =
    let part = kinds_of_type structs m.ty in
    let long : span.len ≡ length part = omega (arith, len, ap length made, length-append old part) in
    let here : at_span span one ≡ part = ap (at_span span) made ∙ (stands-last old part span start long).here in
    told ∙ ap (λ l. one ++ repeated (times - 1) l) here ∙ ap (λ l. l ++ repeated (times - 1) part) made
    ∙ append_assoc old part (repeated (times - 1) part)
    ∙ ap (λ l. old ++ l) (once-more times part some ∙ sym (member-is structs m times is))

-- ---- a struct

pub struct-made : (structs : List CStruct) (name : Text) (at : ℕ) (s : CStruct) (old new : List Scalar) → struct_position name structs ≡ Some at →
    s ≡ get_or structs at s →
    new ≡ old ++ kinds_of_members (take at structs) s.members → new ≡ old ++ kinds_named structs name
struct-made structs name at s old new is here told =
    told ∙ ap (λ l. old ++ l) (ap (λ t. kinds_of_members (take at structs) t.members) here ∙ sym (kinds-whole name structs at s is))

pub struct-laid : (structs : List CStruct) (name : Text) (at : ℕ) (s : CStruct) (spans more : Table Span) (span : Span) (old new : List Scalar) →
    struct_position name structs ≡ Some at → s ≡ get_or structs at s →
    span.start ≡ length old → span.len ≡ length new - length old → new ≡ old ++ kinds_named structs name →
    ((asked : Text) → more asked ≡ with_entry spans s.name span asked) →
    StructsLaid structs spans new → StructsLaid structs more new
struct-laid structs name at s spans more span old new is here start len told add h =
    let named : s.name ≡ name = ap (λ t. t.name) here ∙ found-name name structs at s is in
    let part = kinds_named structs name in
    let long : span.len ≡ length part = omega (arith, len, ap length told, length-append old part) in
    let stands : StandsAtSpan new span part = subst (λ l. StandsAtSpan l span part) (sym told) (stands-last old part span start long) in
    laid-next structs spans more s.name span new add (subst (λ n. StandsAtSpan new span (kinds_named structs n)) (sym named) stands) h

pub none-added : (structs : List CStruct) (name : Text) (end : ℕ) (kinds : List Scalar) → placed_before end name structs ≡ None →
    kinds ≡ kinds ++ kinds_named (take end structs) name
none-added structs name end kinds is = sym (append-nil kinds) ∙ ap (λ l. kinds ++ l) (sym (kinds-none name structs end is))

-- what stands among all structs is added, where the struct is among the first ones
pub same-added : (structs : List CStruct) (name : Text) (end at : ℕ) (old new : List Scalar) → placed_before end name structs ≡ Some at →
    new ≡ old ++ kinds_named structs name →
    new ≡ old ++ kinds_named (take end structs) name
same-added structs name end at old new is told =
    let any : CStruct = record { place = record { start = 0; end = 0 }; name = []; members = [] } in
    told ∙ ap (λ l. old ++ l) (sym (kinds-same name structs end at any (placed-before name structs end at is) (before-end name structs end at is)))

pub copied : (structs : List CStruct) (spans : Table Span) (name : Text) (span : Span) (old new : List Scalar) → StructsLaid structs spans old →
    spans name ≡ Some span → new ≡ old ++ at_span span old →
    new ≡ old ++ kinds_named structs name
copied structs spans name span old new h is told = told ∙ ap (λ l. old ++ l) (h.each name span is).here

-- ---- the three objects

kinds-all : (structs list : List CStruct) (name : Text) → list ≡ structs → kinds_named (take (length structs) list) name ≡ kinds_named structs name
kinds-all structs list name is =
    ap (λ l. kinds_named (take (length structs) l) name) is ∙ ap (λ l. kinds_named l name) (take_all (length structs) structs (omega arith))

pub all-kinds : (structs list : List CStruct) (none one two three : List Scalar) (funcs : List CFunc) → list ≡ structs → none ≡ [] →
    one ≡ none ++ kinds_named (take (length structs) list) (codes "bl_state") → two ≡ one ++ kinds_named (take (length structs) list) (codes "bl_in") →
    three ≡ two ++ kinds_named (take (length structs) list) (codes "bl_out") → three ≡ kinds_of (parts_from structs funcs)
unfolding cells_of
all-kinds structs list none one two three funcs is empty first second third =
    let state = cells_at state_object (inner_of structs (codes "bl_state")) in
    let input = cells_at input_object (inner_of structs (codes "bl_in")) in
    let output = cells_at output_object (inner_of structs (codes "bl_out")) in
    third ∙ (λ i. second i ++ kinds-all structs list (codes "bl_out") is i)
    ∙ (λ i. first i ++ kinds-all structs list (codes "bl_in") is i ++ kinds_named structs (codes "bl_out"))
    ∙ (λ i. empty i ++ kinds-all structs list (codes "bl_state") is i ++ kinds_named structs (codes "bl_in") ++ kinds_named structs (codes "bl_out"))
    ∙ sym
    (map-append (λ cell. cell.kind) (state ++ input) output
    ∙ ap (λ l. l ++ map (λ cell. cell.kind) output) (map-append (λ cell. cell.kind) state input)
    ∙ (λ i. kinds-at state_object (inner_of structs (codes "bl_state")) i ++ kinds-at input_object (inner_of structs (codes "bl_in")) i
    ++ kinds-at output_object (inner_of structs (codes "bl_out")) i))
