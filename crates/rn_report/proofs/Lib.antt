mod PrintedTexts
mod JsonTexts
