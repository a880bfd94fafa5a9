mod OpenedFiles
