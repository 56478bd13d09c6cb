-- How what several calls say of the bytes left goes together.
use Rattle.std.proofs.Common.{◌≡◌, ℕ, ◌+◌, ◌≤◌, List, [], ◌++◌, length, take, drop, Option, Some, None, IfSome, refl, sym, ◌∙◌, ap, arith, length-append}
use Rattle.std.proofs.Common.{length-drop}
use Rattle.std.proofs.Math.ListN.{drop_of_length-le}
use Rattle.std.proofs.Math.Seq.{take-add}
use Rattle.std.proofs.lemmas.List.{drop-drop, length-take-le, take_all}
use Rattle.bl_io.specs.Left.{IsNext, HandsOver, IsKept, KeepsOthers, GivesUpTo}

-- what was got is the front of what was left at first, and the rest is left
pub record IsFront (bytes got : List ℕ) (after : Option (List ℕ)) : Type 0 where
  pub within : length got ≤ length bytes
  pub front : got ≡ take (length got) bytes
  pub rest : after ≡ Some (drop (length got) bytes)

-- the same, where the bytes left were told
abbrev pub HasRead : Option (List ℕ) → List ℕ → Option (List ℕ) → Type 0
HasRead before got after = IfSome before (λ bytes. IsFront bytes got after)

pub IsKept-trans : (a b c : Option (List ℕ)) → IsKept a b → IsKept b c → IsKept a c
IsKept-trans None b c h k = tt
IsKept-trans (Some bytes) b c h k = rw h at k

pub KeepsOthers-trans : (name : List ℕ) (a b c : List ℕ → Option (List ℕ)) → KeepsOthers name a b → KeepsOthers name b c → KeepsOthers name a c
KeepsOthers-trans name a b c h k = λ other apart. IsKept-trans (a other) (b other) (c other) (h other apart) (k other apart)

pub front_more : (bytes got room : List ℕ) (n : ℕ) (mid after : Option (List ℕ)) → IsFront bytes got mid →
    IsNext (drop (length got) bytes) n room after → n ≤ length room → IsFront bytes (got ++ take n room) after
front_more bytes got room n mid after so next fits =
    let len : length (got ++ take n room) ≡ length got + n = length-append got (take n room) ∙ ap (λ m. length got + m) (length-take-le n room fits) in
    record {
      within = rw len (omega (arith, length-drop (length got) bytes));
      front = rw (len, take-add (length got) n bytes) (cc);
      rest = rw len (next.rest ∙ ap Some (drop-drop n (length got) bytes));
    }

pub HasRead-more : (before mid after : Option (List ℕ)) (got room : List ℕ) (n : ℕ) → HasRead before got mid → HandsOver mid n room after →
    n ≤ length room → HasRead before (got ++ take n room) after
HasRead-more None mid after got room n so next fits = tt
HasRead-more (Some bytes) mid after got room n so next fits =
    let next_of : HandsOver (Some (drop (length got) bytes)) n room after = rw so.rest at next in
    front_more bytes got room n mid after so next_of fits

pub GivesUpTo-at_end : (before mid after : Option (List ℕ)) (got room : List ℕ) (limit : ℕ) → HasRead before got mid →
    HandsOver mid 0 room after → length got ≤ limit → GivesUpTo limit before got after
GivesUpTo-at_end None mid after got room limit so next within = tt
GivesUpTo-at_end (Some bytes) mid after got room limit so next within =
    let last : HandsOver (Some (drop (length got) bytes)) 0 room after = rw so.rest at next in
    let short : length bytes ≤ length got = omega (arith, length-drop (length got) bytes, ap length (last.at_end refl)) in
    record {
      front = so.front ∙ take_all (length got) bytes short ∙ sym (take_all limit bytes (omega arith));
      rest = last.rest ∙ ap Some (last.at_end refl ∙ sym (drop_of_length-le bytes (omega arith)));
    }

pub GivesUpTo-full : (before mid : Option (List ℕ)) (got : List ℕ) (limit : ℕ) → HasRead before got mid → limit ≤ length got →
    length got ≤ limit → GivesUpTo limit before got mid
GivesUpTo-full None mid got limit so full within = tt
GivesUpTo-full (Some bytes) mid got limit so full within =
    let same : length got ≡ limit = omega arith in
    record { front = rw (← same) so.front; rest = rw (← same) so.rest }
