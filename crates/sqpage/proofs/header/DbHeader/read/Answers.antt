use Rattle.std.proofs.Common.{rules, ◌≡◌, ◌+◌, ◌≤◌, subst, arith, ◌∙◌}
use Rattle.sqval.specs.PageSize.{IsPageSize}
use Rattle.sqpage.specs.Header.{size_named, byte}
use Rattle.sqpage.proofs.header.DbHeader.read.Goals as goal

pub returns-clause-ok : goal.returns-clause-ok
returns-clause-ok c =
    let size : c.in-Some.page_size ≡ size_named c.args.bytes.now = c.in-Some.ensures.value ∙ c.named_size.ensures in record {
      magic = c.has_magic.ensures.0 (search (rules, c.if-not-has_magic.false));
      page_size = size;
      sized = subst IsPageSize (c.get.ensures.value ∙ size) c.get.ensures.valid;
      write_version = search rules;
      read_version = search rules;
      reserved = search rules;
      room = subst (λ s. 480 + byte c.args.bytes.now 20 ≤ s) size (omega (arith, c.get.ensures.value));
      fractions = c.has_fractions.ensures.0 (search (rules, c.if-not-has_fractions.false));
      change_counter = c.word_at.ensures;
      size_in_pages = c.word_at-2.ensures;
      first_trunk = c.word_at-3.ensures;
      free_pages = c.word_at-4.ensures;
      schema_cookie = c.word_at-5.ensures;
      schema_format = c.word_at-6.ensures;
      cache_size = c.word_at-7.ensures;
      largest_root = c.word_at-8.ensures;
      text_encoding = c.word_at-9.ensures;
      user_version = c.word_at-10.ensures;
      incremental_vacuum = c.word_at-11.ensures;
      application_id = c.word_at-12.ensures;
      version_valid_for = c.word_at-13.ensures;
      writer_version = c.word_at-14.ensures;
    }
