-- The theorem put to use: that two files are alike, and what is told of each, is computed; that both say the same follows.
use Prim.Native.Nat.{ℕ}
use mathlib.Core.Path.{◌≡◌, refl, subst₂}
use mathlib.Core.List.{List, [], ◌∷◌}
use lib.ListN.{take, drop}
use Rattle.laws.specs.Bytes.{bytes}
use Rattle.lines.specs.Lines.{lines_of}
use Rattle.cut_lines.specs.InForce.{char_after_line, char_after_lines}
use Rattle.rules.specs.Whole.{Held, passed, refused, loading}
use Rattle.examples.specs.Computing.{computing}
use Rattle.remarks.specs.Counted.{counts_as, onto_counted, counted_from, counted, list_of}
use Rattle.remarks.specs.Alike.{Alike, Agree}
use Rattle.remarks.specs.Edits.{is_remark, behind_text}
use Rattle.remarks.specs.Examples.{issued, enough, BothAccepted, BothRefused, Accepted, WordMissing, PartMissing, EndMissing, Annotated, ChangeFirst}
use Rattle.remarks.proofs.Alike.{loaded-alike}

both-accepted : (s t : List ℕ) (g h : Held) → Alike s t → loading enough s ≡ passed g → loading enough t ≡ passed h → BothAccepted s t
both-accepted s t g h alike p q =
    record { alike = alike; held = g; held_too = h; passes = p; passes_too = q; tables = subst₂ (Agree s t) p q (loaded-alike s t alike enough) }

both-refused : (s t : List ℕ) (n j k c : ℕ) → Alike s t → loading enough s ≡ refused n j c → loading enough t ≡ refused n k c → BothRefused s t n j k c
both-refused s t n j k c alike p q =
    record { alike = alike; told = p; told_too = q; fault = subst₂ (Agree s t) p q (loaded-alike s t alike enough) }

pub accepted : Accepted
unfolding computing counts_as onto_counted counted_from counted list_of char_after_line
accepted = both-accepted _ _ _ _ (record { passes = refl; passes_too = refl; list = refl }) refl refl

pub word-missing : WordMissing
unfolding computing counts_as onto_counted counted_from counted list_of char_after_line
word-missing = both-refused _ _ 10 15 21 14 (record { passes = refl; passes_too = refl; list = refl }) refl refl

pub part-missing : PartMissing
unfolding computing counts_as onto_counted counted_from counted list_of char_after_line
part-missing = both-refused _ _ 9 13 18 0 (record { passes = refl; passes_too = refl; list = refl }) refl refl

pub end-missing : EndMissing
unfolding computing counts_as onto_counted counted_from counted list_of char_after_line
end-missing = both-refused _ _ 19 20 29 0 (record { passes = refl; passes_too = refl; list = refl }) refl refl

pub annotated : Annotated
unfolding computing char_after_line char_after_lines is_remark
annotated =
    let ls = lines_of (issued "C_comp 5pF NA NA" ("[End]" ∷ [])) in
    record {
      before = take 14 ls;
      old = _;
      new = _;
      behind = drop 15 ls;
      lines = refl;
      lines_too = refl;
      edit = behind_text (bytes "C_comp 5pF NA NA") [] (bytes " ! measured in May") refl refl refl;
    }

pub change-first : ChangeFirst
unfolding computing counts_as onto_counted counted_from counted list_of char_after_line
change-first = record { alike_without = refl; held = _; passes = refl; told = refl }
