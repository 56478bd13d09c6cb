-- Parts of a list that grows.
use Rattle.std.proofs.Common.{◌≡◌, ℕ, suc, ◌+◌, ◌≤◌, Bool, true, false, List, ◌++◌, length, take, drop, Option, Some, None, refl, ap, sym, subst, ◌∙◌}
use Rattle.std.proofs.Common.{arith, length-append}
use Rattle.std.specs.Prelude.{bytes_eq, if◌then◌else◌}
use Rattle.std.specs.Option.{option_or}
use Rattle.std.proofs.lemmas.Slice.Eq.{bytes_eq-Decides}
use Rattle.std.proofs.lemmas.List.{append_assoc, drop_at, drop-append-le, length-drop, take-append-le, take_all}
use Rattle.bl_tree.proofs.Basics.{same_some}
use Rattle.bl_tree.specs.declared.text.Text.{Text}
use Rattle.bl_tree.specs.declared.scalar.Scalar.{Scalar}
use Rattle.bl_tree.specs.declared.c.CStruct.{CStruct}
use Rattle.bl_ctext_semantics.specs.Tables.{Table, with_entry}
use Rattle.bl_crun_ports.specs.declared.repeat.Span.{Span}
use Rattle.bl_crun_ports.specs.inner.Spans.{at_span, kinds_named, repeated, StructsLaid, StandsAtSpan}
use Rattle.bl_crun_ports.proofs.KindLemmas.{repeated-last}

-- a part stays where it is when the list grows
pub part-stays : (kinds more : List Scalar) (span : Span) → span.start + span.len ≤ length kinds → at_span span (kinds ++ more) ≡ at_span span kinds
part-stays kinds more span within =
    let starts : span.start ≤ length kinds = omega (arith, within) in
    let enough : span.len ≤ length (drop span.start kinds) = omega (arith, within, length-drop span.start kinds) in
    ap (take span.len) (drop-append-le span.start kinds more starts) ∙ take-append-le span.len (drop span.start kinds) more enough

pub longer : (kinds more : List Scalar) (n : ℕ) → n ≤ length kinds → n ≤ length (kinds ++ more)
longer kinds more n within = omega (arith, within, length-append kinds more)

pub stands-more : (kinds more part : List Scalar) (span : Span) → StandsAtSpan kinds span part → StandsAtSpan (kinds ++ more) span part
stands-more kinds more part span h = record {
  within = longer kinds more (span.start + span.len) h.within;
  here = part-stays kinds more span h.within ∙ h.here;
}

pub laid-more : (structs : List CStruct) (spans : Table Span) (kinds more : List Scalar) → StructsLaid structs spans kinds →
    StructsLaid structs spans (kinds ++ more)
laid-more structs spans kinds more h = record { each = λ name span is. stands-more kinds more (kinds_named structs name) span (h.each name span is) }

-- what was added last stands behind what there was
pub stands-last : (kinds more : List Scalar) (span : Span) → span.start ≡ length kinds → span.len ≡ length more →
    StandsAtSpan (kinds ++ more) span more
stands-last kinds more span start len = record {
  within = omega (arith, start, len, length-append kinds more);
  here = ap (take span.len) (drop_at kinds more span.start (sym start)) ∙ take_all span.len more (omega (arith, len));
}

pub laid-next : (structs : List CStruct) (spans new : Table Span) (name : Text) (span : Span) (kinds : List Scalar) →
    ((asked : Text) → new asked ≡ with_entry spans name span asked) →
    StandsAtSpan kinds span (kinds_named structs name) → StructsLaid structs spans kinds → StructsLaid structs new kinds
laid-next structs spans new name span kinds add here h = record { each = λ asked found is. chosen asked found (spans asked) refl (sym (add asked) ∙ is) }
  where
    fresh : (asked : Text) (found : Span) (b : Bool) → bytes_eq name asked ≡ b → (if b then Some span else None) ≡ Some found →
        StandsAtSpan kinds found (kinds_named structs asked)
    fresh asked found true same is =
        subst (λ s. StandsAtSpan kinds s (kinds_named structs asked)) (same_some span found is)
        (subst (λ n. StandsAtSpan kinds span (kinds_named structs n)) ((bytes_eq-Decides name asked).0 same) here)
    fresh asked found false same is = cc

    chosen : (asked : Text) (found : Span) (o : Option Span) → spans asked ≡ o →
        option_or o (if bytes_eq name asked then Some span else None) ≡ Some found →
        StandsAtSpan kinds found (kinds_named structs asked)
    chosen asked found (Some old) there is = subst (λ s. StandsAtSpan kinds s (kinds_named structs asked)) (same_some old found is) (h.each asked old there)
    chosen asked found None there is = fresh asked found (bytes_eq name asked) refl is

-- one more time
pub times-next : (old now new : List Scalar) (span : Span) (k : ℕ) → span.start + span.len ≤ length old →
    now ≡ old ++ repeated k (at_span span old) →
    new ≡ now ++ at_span span now →
    new ≡ old ++ repeated (k + 1) (at_span span old)
times-next old now new span k within so_far told =
    let part = at_span span old in
    let same : k + 1 ≡ suc k = omega arith in
    told ∙ ap (λ l. now ++ l) (ap (at_span span) so_far ∙ part-stays old (repeated k part) span within) ∙ ap (λ l. l ++ part) so_far
    ∙ append_assoc old (repeated k part) part ∙ ap (λ l. old ++ l) (repeated-last k part) ∙ ap (λ n. old ++ repeated n part) (sym same)
