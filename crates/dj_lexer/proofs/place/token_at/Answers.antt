use Rattle.std.proofs.Common.{◌-◌, length, take, ap, ◌∙◌}
use Rattle.dj_lexer.proofs.TokenAtLemmas.{token_text, token_fits}
use Rattle.dj_lexer.proofs.place.token_at.Goals as goal

pub slice_bounds-result-count : goal.slice_bounds-result-count
slice_bounds-result-count c =
    token_fits c.args.bytes.now c.args.at c.requires.0 c.requires.1 c.text_from-text.result.now c.after_token-rest.result.now c.text_from-text.ensures.text c.after_token-rest.ensures

pub returns : goal.returns
returns c =
    let named = c.requires.1 in
    record {
      dialect = named.dialect;
      tokens = named.tokens;
      are_tokens = named.are_tokens;
      token = named.token;
      among = named.among;
      begins = named.begins;
      says = ap (take (length c.text_from-text.result.now - length c.after_token-rest.result.now)) c.as_bytes.ensures.value
          ∙ token_text c.args.bytes.now c.args.at c.requires.0 named c.text_from-text.result.now c.after_token-rest.result.now c.text_from-text.ensures.text c.after_token-rest.ensures
          ∙ named.says;
    }
