use Rattle.std.proofs.Common.{◌≡◌}
use Rattle.std.proofs.lemmas.Result.{IfOk-weaker}
use Rattle.sqdeep.specs.declared.text.Encoding.TheVariants.{Utf8}
use Rattle.sqtext.specs.Texts.{IsReadAs}
use Rattle.sqtext.proofs.TextsRead.{utf8_read}
use Rattle.sqtext.proofs.text.decoded.Goals as goal

pub returns-in-Utf8 : goal.returns-in-Utf8
returns-in-Utf8 c =
    rw c.in-Utf8.is (IfOk-weaker c.from_slice.result (λ v. v.items ≡ c.args.bytes.now) (λ v. IsReadAs Utf8 c.args.bytes.now v.items) (λ v same. utf8_read c.args.bytes.now v.items same) c.from_slice.ensures.items)

pub returns-in-Utf16Le : goal.returns-in-Utf16Le
returns-in-Utf16Le c = rw c.in-Utf16Le.is c.utf16_decoded.ensures

pub returns-in-Utf16Be : goal.returns-in-Utf16Be
returns-in-Utf16Be c = rw c.in-Utf16Be.is c.utf16_decoded-in-Utf16Be.ensures
