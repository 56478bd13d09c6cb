-- Readers behind several bytes.
use Rattle.std.proofs.Common.{◌≡◌, ℕ, suc, ◌+◌, ◌-◌, ◌*◌, ◌^◌, ◌<◌, ◌≤◌, List, [], ◌∷◌, ◌++◌, length, take, drop, refl, sym, ap, ◌∙◌, arith}
use Rattle.std.proofs.lemmas.Bool.Decides.{nat_tests}
use Rattle.std.proofs.Math.Seq.{take-add}
use Rattle.std.proofs.lemmas.List.{length-take, length-take-le}
use Rattle.std.specs.List.{slice_range}
use Rattle.bl_lsp_text.specs.declared.stand.Stand.{Stand}
use Rattle.bl_lsp_text.specs.Positions.{at_start, passed, passed_all, units_at}

units-few : (byte : ℕ) → units_at byte ≤ 2
units-few byte = grind (arith, nat_tests)

-- a byte adds at most two to the line and the unit
pub passed-room : (stand : Stand) (byte : ℕ) → (passed stand byte).line + (passed stand byte).unit ≤ stand.line + stand.unit + 2
passed-room stand byte = grind (arith, nat_tests)

pub passed_all-room : (stand : Stand) (bytes : List ℕ) →
    (passed_all stand bytes).line + (passed_all stand bytes).unit ≤ stand.line + stand.unit + 2 * length bytes
passed_all-room stand [] = omega arith
passed_all-room stand (byte ∷ bytes) =
    let one = passed-room stand byte in
    let rest = passed_all-room (passed stand byte) bytes in
    omega (arith, one, rest)

pub passed_all-append : (stand : Stand) (one other : List ℕ) → passed_all stand (one ++ other) ≡ passed_all (passed_all stand one) other
passed_all-append stand [] other = refl
passed_all-append stand (byte ∷ one) other = passed_all-append (passed stand byte) one other

-- a reader behind a front of a text goes on over the bytes up to a later offset
pub passed_all-range : (stand : Stand) (text : List ℕ) (i j : ℕ) → i ≤ j →
    passed_all (passed_all stand (take i text)) (slice_range text i j) ≡ passed_all stand (take j text)
passed_all-range stand text i j order =
    let sum : i + (j - i) ≡ j = omega arith in
    sym (passed_all-append stand (take i text) (slice_range text i j))
    ∙ ap (passed_all stand) (sym (take-add i (j - i) text) ∙ ap (λ n. take n text) sum)

-- behind a front of a text the line and the unit are few
pub front-room : (text : List ℕ) (n : ℕ) → n ≤ length text →
    (passed_all at_start (take n text)).line + (passed_all at_start (take n text)).unit ≤ 2 * n
front-room text n within =
    let room = passed_all-room at_start (take n text) in
    omega (arith, room, length-take-le n text within)

-- a reader behind a front of a text has room for the bytes up to a later offset
pub reads-on : (text : List ℕ) (stand : Stand) (i j : ℕ) → i ≤ j → j ≤ length text → length text < 2 ^ 63 →
    stand ≡ passed_all at_start (take i text) → stand.line + stand.unit + 2 * length (slice_range text i j) < 2 ^ 64
reads-on text stand i j order within small is =
    let room = front-room text i (omega arith) in
    let line = ap (λ (s : Stand). s.line) is in
    let unit = ap (λ (s : Stand). s.unit) is in
    omega (arith, room, line, unit, length-take (j - i) (drop i text))
