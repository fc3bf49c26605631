-- The answer of each public function is its contract's alone. Each contract is one equation whose right side is made of the
-- arguments, so two answers that both meet it are equal: for a reader the result, for a writer what the slice holds at the end.
-- A reader of numbers answers so at every type of numbers, since no two of one type have one value. Assumes nothing.
use Rattle.octets.specs.Words.{ℕ}
use Rattle.octets.proofs.Tools.{refl}
use Rattle.octets.proofs.UniqueLaws.{as-told, as-left, as-numbered}
use Rattle.octets.specs.Determined.{Determined}
use Rattle.octets.specs.declared.number.Number as numbers
use Rattle.octets.specs.contracts.number.Number.TheBound.{Lawful}
use Rattle.std.specs.declared.clone.Clone as clones
use Rattle.octets.proofs as the
use denote.RattleType.{RattleType}
use denote.Param.Laws.{Laws, IsCopy}
use mir.Syntax.{Dict, w64}
use mir.Val.{Fits}

pub get-u8-determined : Determined the.get_u8.Kinds.ps the.get_u8.Kinds.r the.get_u8.Reads.Learnt
get-u8-determined κs a x y u v = as-told

-- at every type of numbers
module _ (T : RattleType) (L : Laws T) (C : IsCopy T) (n : numbers.Ghosts T.Denot) (d : Dict) (c : clones.Ghosts T.Denot) (e : Dict) (laws : Lawful T n d c e) where
  pub get-le-determined : Determined (the.get_le.Kinds.ps T L C) (the.get_le.Kinds.r T L C) (the.get_le.Reads.Learnt T L C n d c e)
  get-le-determined κs a x y u v = as-numbered n.value laws.told_apart x y

  pub get-be-determined : Determined (the.get_be.Kinds.ps T L C) (the.get_be.Kinds.r T L C) (the.get_be.Reads.Learnt T L C n d c e)
  get-be-determined κs a x y u v = as-numbered n.value laws.told_apart x y

  pub put-le-determined : Determined (the.put_le.Kinds.ps T L C) (the.put_le.Kinds.r T L C) (the.put_le.Reads.Learnt T L C n d c e)
  put-le-determined κs a x y u v = as-left u v refl

  pub put-be-determined : Determined (the.put_be.Kinds.ps T L C) (the.put_be.Kinds.r T L C) (the.put_be.Reads.Learnt T L C n d c e)
  put-be-determined κs a x y u v = as-left u v refl

-- at every length
pub array-at-determined : (N : ℕ) (F : Fits w64 N) → Determined (the.array_at.Kinds.ps N F) (the.array_at.Kinds.r N F) (the.array_at.Reads.Learnt N F)
array-at-determined N F κs a x y u v = as-told

pub is-zero-determined : Determined the.is_zero.Kinds.ps the.is_zero.Kinds.r the.is_zero.Reads.Learnt
is-zero-determined κs a x y u v = as-told

pub is-zero-run-determined : Determined the.is_zero_run.Kinds.ps the.is_zero_run.Kinds.r the.is_zero_run.Reads.Learnt
is-zero-run-determined κs a x y u v = as-told

pub same-determined : Determined the.same.Kinds.ps the.same.Kinds.r the.same.Reads.Learnt
same-determined κs a x y u v = as-told

pub put-u8-determined : Determined the.put_u8.Kinds.ps the.put_u8.Kinds.r the.put_u8.Reads.Learnt
put-u8-determined κs a x y u v = as-left u v refl

pub put-octets-determined : Determined the.put_octets.Kinds.ps the.put_octets.Kinds.r the.put_octets.Reads.Learnt
put-octets-determined κs a x y u v = as-left u v refl

pub put-zeros-determined : Determined the.put_zeros.Kinds.ps the.put_zeros.Kinds.r the.put_zeros.Reads.Learnt
put-zeros-determined κs a x y u v = as-left u v refl
