-- The answer of each function that programs in C call is its contract's alone, from the clause of that function and not of the library's that
-- it calls: its number, and what the lent buffer holds at the end, are equations whose right sides are made of the arguments. A theorem for
-- each function. Assumes nothing.
use Rattle.octets.proofs.Tools.{refl}
use Rattle.octets.specs.Determined.{Determined}
use Rattle.octets.proofs.UniqueLaws.{as-told}
use Rattle.export.proofs.UniqueLaws.{as-view-decoded, as-view-encoded}
use Rattle.export.proofs.LentLaws.{as_lent}
use Rattle.export_c.proofs as the

pub threadwicket-classify-raw-determined : Determined the.threadwicket_classify_raw.Kinds.ps the.threadwicket_classify_raw.Kinds.r the.threadwicket_classify_raw.Reads.Learnt
threadwicket-classify-raw-determined κs a x y u v = as_lent (λ l. (u.0, (u.1.0, (u.1.1.0, (u.1.1.1.0, (l, u.1.1.1.1.1)))))) refl refl

pub threadwicket-refresh-determined : Determined the.threadwicket_refresh.Kinds.ps the.threadwicket_refresh.Kinds.r the.threadwicket_refresh.Reads.Learnt
threadwicket-refresh-determined κs a x y u v = as-told

pub threadwicket-current-decode-determined : Determined the.threadwicket_current_decode.Kinds.ps the.threadwicket_current_decode.Kinds.r the.threadwicket_current_decode.Reads.Learnt
threadwicket-current-decode-determined κs a x y u v = as-view-decoded u v refl refl

pub threadwicket-current-encode-determined : Determined the.threadwicket_current_encode.Kinds.ps the.threadwicket_current_encode.Kinds.r the.threadwicket_current_encode.Reads.Learnt
threadwicket-current-encode-determined κs a x y u v = as-view-encoded u v refl refl

pub threadwicket-mutation-decode-determined : Determined the.threadwicket_mutation_decode.Kinds.ps the.threadwicket_mutation_decode.Kinds.r the.threadwicket_mutation_decode.Reads.Learnt
threadwicket-mutation-decode-determined κs a x y u v = as-view-decoded u v refl refl

pub threadwicket-mutation-encode-determined : Determined the.threadwicket_mutation_encode.Kinds.ps the.threadwicket_mutation_encode.Kinds.r the.threadwicket_mutation_encode.Reads.Learnt
threadwicket-mutation-encode-determined κs a x y u v = as-view-encoded u v refl refl

pub threadwicket-key-decode-determined : Determined the.threadwicket_key_decode.Kinds.ps the.threadwicket_key_decode.Kinds.r the.threadwicket_key_decode.Reads.Learnt
threadwicket-key-decode-determined κs a x y u v = as-view-decoded u v refl refl

pub threadwicket-key-encode-determined : Determined the.threadwicket_key_encode.Kinds.ps the.threadwicket_key_encode.Kinds.r the.threadwicket_key_encode.Reads.Learnt
threadwicket-key-encode-determined κs a x y u v = as-view-encoded u v refl refl

pub threadwicket-entry-decode-determined : Determined the.threadwicket_entry_decode.Kinds.ps the.threadwicket_entry_decode.Kinds.r the.threadwicket_entry_decode.Reads.Learnt
threadwicket-entry-decode-determined κs a x y u v = as-view-decoded u v refl refl

pub threadwicket-entry-encode-determined : Determined the.threadwicket_entry_encode.Kinds.ps the.threadwicket_entry_encode.Kinds.r the.threadwicket_entry_encode.Reads.Learnt
threadwicket-entry-encode-determined κs a x y u v = as-view-encoded u v refl refl

pub threadwicket-cookie-value-decode-determined : Determined the.threadwicket_cookie_value_decode.Kinds.ps the.threadwicket_cookie_value_decode.Kinds.r the.threadwicket_cookie_value_decode.Reads.Learnt
threadwicket-cookie-value-decode-determined κs a x y u v = as-view-decoded u v refl refl

pub threadwicket-cookie-value-encode-determined : Determined the.threadwicket_cookie_value_encode.Kinds.ps the.threadwicket_cookie_value_encode.Kinds.r the.threadwicket_cookie_value_encode.Reads.Learnt
threadwicket-cookie-value-encode-determined κs a x y u v = as-view-encoded u v refl refl

pub threadwicket-config-decode-determined : Determined the.threadwicket_config_decode.Kinds.ps the.threadwicket_config_decode.Kinds.r the.threadwicket_config_decode.Reads.Learnt
threadwicket-config-decode-determined κs a x y u v = as-view-decoded u v refl refl

pub threadwicket-config-encode-determined : Determined the.threadwicket_config_encode.Kinds.ps the.threadwicket_config_encode.Kinds.r the.threadwicket_config_encode.Reads.Learnt
threadwicket-config-encode-determined κs a x y u v = as-view-encoded u v refl refl

pub threadwicket-inspection-decode-determined : Determined the.threadwicket_inspection_decode.Kinds.ps the.threadwicket_inspection_decode.Kinds.r the.threadwicket_inspection_decode.Reads.Learnt
threadwicket-inspection-decode-determined κs a x y u v = as-view-decoded u v refl refl

pub threadwicket-inspection-encode-determined : Determined the.threadwicket_inspection_encode.Kinds.ps the.threadwicket_inspection_encode.Kinds.r the.threadwicket_inspection_encode.Reads.Learnt
threadwicket-inspection-encode-determined κs a x y u v = as-view-encoded u v refl refl
