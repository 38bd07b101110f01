use Rattle.sqtext.proofs.text.has_nul_or_cr.Goals as goal

pub returns-in-Utf16Le : goal.returns-in-Utf16Le
returns-in-Utf16Le c = rw c.in-Utf16Le.is c.utf16_has_nul_or_cr.ensures

pub returns-in-Utf16Be : goal.returns-in-Utf16Be
returns-in-Utf16Be c = rw c.in-Utf16Be.is c.utf16_has_nul_or_cr-in-Utf16Be.ensures
